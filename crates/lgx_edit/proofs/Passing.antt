-- The two passes over a merged routine.
use Rattle.std.proofs.Common.{◌≡◌, ℕ, ◌+◌, ◌<◌, true, List, [], ◌∷◌, ◌++◌, length, get_or, Ok, Err, ap, sym, subst, ◌∙◌}
use Rattle.std.proofs.lemmas.List.{append-nil, get_or-map, length-map, map-append}
use Rattle.std.proofs.lemmas.List.Elements.{All-from_recursion}
use Rattle.lgx_rung.specs.Tree.{Tree, Source}
use Rattle.lgx_rung.specs.declared.ins.Ins.{Ins}
use Rattle.spec_language.specs.Checked.{CheckScope, Label, checked}
use Rattle.lgx_check.specs.Answers.{AnswersAs}
use Rattle.lgx_check.specs.Known.{is_plain}
use Rattle.lgx_check.specs.Progress.{Progress, Checks, with_labels, checked_now, after_rung}
use Rattle.lgx_check.specs.declared.error.CheckError.{CheckError}
use Rattle.lgx_check.specs.declared.error.CheckError.TheVariants.{Check, Memory}
use Rattle.lgx_check.proofs.Known.{plain_labels}
use Rattle.lgx_check.proofs.Progress.{checks_more, checks_refused}
use Rattle.lgx_edit.specs.declared.pick.Pick.{Pick}
use Rattle.lgx_edit.specs.Counting.{rung_count}
use Rattle.lgx_edit.specs.Shared.{RungPair, sources, checkeds}
use Rattle.lgx_edit.specs.Picks.{pick_source, pick_sources, IsPickKnown, ArePicksKnown}
use Rattle.lgx_edit.proofs.Sharing.{checkeds_end, sources_end}

pub no_labels : (number : ℕ) (rung : Source) (p : Progress) → is_plain rung ≡ true → p ≡ with_labels number rung p
no_labels number rung p h =
    ap (λ (ls : List Label). record p { labels = ls }) (sym (ap (λ (ls : List Label). p.labels ++ ls) (plain_labels number rung h) ∙ append-nil p.labels))

-- ---- the rung of a number

pub within : (picks : List Pick) (n : ℕ) → n < length picks → n < length (pick_sources picks)
within picks n h = subst (λ k. n < k) (sym (length-map picks pick_source)) h

pub source_at : (picks : List Pick) (n : ℕ) (p : Pick) → n < length picks → p ≡ get_or picks n p → pick_source p ≡ get_or (pick_sources picks) n (pick_source p)
source_at picks n p h is = ap pick_source is ∙ sym (get_or-map pick_source picks n p (pick_source p) h)

pub known_at : (scope : CheckScope) (picks : List Pick) (n : ℕ) (p : Pick) → n < length picks → p ≡ get_or picks n p → ArePicksKnown scope picks → IsPickKnown scope p
known_at scope picks n p h is known = subst (IsPickKnown scope) (sym is) (All-from_recursion (IsPickKnown scope) picks known n p h)

-- ---- one rung more is checked

pub one_checked : (scope : CheckScope) (picks : List Pick) (n : ℕ) (p : Pick) (rungs : List RungPair) (r : RungPair) (old new : Progress) → Checks scope (pick_sources picks) n (checkeds rungs) old
    → n < length picks → p ≡ get_or picks n p → checked_now n (pick_source p) old ≡ Ok r.checked → new ≡ after_rung (rung_count (pick_source p)) old
    → Checks scope (pick_sources picks) (n + 1) (checkeds (rungs ++ r ∷ [])) new
one_checked scope picks n p rungs r old new checks h is answer after =
    subst (λ (made : List (Tree Ins)). Checks scope (pick_sources picks) (n + 1) made new) (sym (checkeds_end rungs r))
    (checks_more scope (pick_sources picks) n (pick_source p) (checkeds rungs) r.checked old new checks (within picks n h) (source_at picks n p h is) answer after)

pub one_refused : {A B : Type 0} (scope : CheckScope) (picks : List Pick) (n : ℕ) (p : Pick) (made : List (Tree Ins)) (now : Progress) (f : A → Tree Ins) (g : B → List (Tree Ins)) (error : CheckError)
    → Checks scope (pick_sources picks) n made now → n < length picks → p ≡ get_or picks n p
    → AnswersAs f (checked_now n (pick_source p) now) (Err error) → AnswersAs g (checked scope (pick_sources picks)) (Err error)
one_refused scope picks n p made now f g (Check fault) checks h is answer =
    checks_refused scope (pick_sources picks) n (pick_source p) made fault now checks (within picks n h) (source_at picks n p h is) answer
one_refused scope picks n p made now f g Memory checks h is answer = tt

pub as_many : (rungs : List RungPair) (picks : List Pick) → sources rungs ≡ pick_sources picks → length rungs ≡ length picks
as_many rungs picks e = sym (length-map rungs (λ (r : RungPair). r.source)) ∙ (ap (λ (xs : List Source). length xs) e ∙ length-map picks pick_source)

pub sources_more : (rungs : List RungPair) (picks : List Pick) (r : RungPair) (p : Pick) → sources rungs ≡ pick_sources picks → r.source ≡ pick_source p → sources (rungs ++ r ∷ []) ≡ pick_sources (picks ++ p ∷ [])
sources_more rungs picks r p e is =
    sources_end rungs r
    ∙ (ap (λ (xs : List Source). xs ++ r.source ∷ []) e
    ∙ (ap (λ (x : Source). pick_sources picks ++ x ∷ []) is ∙ sym (map-append pick_source picks (p ∷ []))))
