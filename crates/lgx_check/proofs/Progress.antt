-- The check of a routine, rung by rung: what a caller's loop over the rungs keeps true.
use Rattle.std.proofs.Common.{◌≡◌, ℕ, suc, ◌+◌, ◌<◌, ◌≤◌, true, List, [], ◌∷◌, ◌++◌, length, get_or, take, drop, refl, ap, sym, ◌∙◌, subst, append_assoc, arith, Result, Ok, Err}
use Rattle.std.specs.Prelude.{sum_by, filter_map, flat_map}
use Rattle.std.specs.List.{enumerate_from}
use Rattle.std.proofs.lemmas.List.{append-nil, drop_more, length-take-le, take-append-drop, take_all, take_more}
use Rattle.std.proofs.lemmas.List.Sums.{sum_by-append, sum_by-cons}
use Rattle.spec_base.specs.FirstCause.{◌>>=◌}
use Rattle.spec_base.proofs.Binds.{bind_ok, ok_inj}
use Rattle.lgx_rung.specs.Tree.{Tree, Source, SourceIns, instructions}
use Rattle.lgx_rung.specs.declared.fault.CheckFault.{CheckFault}
use Rattle.lgx_rung.specs.declared.ins.Ins.{Ins}
use Rattle.spec_language.specs.Checked.{CheckScope, Spot, label_at, labels, instruction_of, checked_tree, checked_from, checked}
use Rattle.lgx_check.specs.Known.{is_plain}
use Rattle.lgx_check.specs.Progress.{Progress, with_labels, checked_now, after_rung, HasLabels, Checks}
use Rattle.lgx_check.specs.Spots.{start_of}
use Rattle.lgx_check.proofs.Known.{plain_labels}

-- ---- labels

each_end : {X Y : Type 0} (f : ℕ × X → List Y) (k : ℕ) (xs : List X) (x : X) → flat_map f (enumerate_from k (xs ++ x ∷ [])) ≡ flat_map f (enumerate_from k xs) ++ f (k + length xs, x)
each_end f k [] x = let none : k ≡ k + 0 = omega arith in append-nil (f (k, x)) ∙ ap (λ n. f (n, x)) none
each_end f k (y ∷ ys) x =
    let sum : k + 1 + length ys ≡ k + suc (length ys) = omega arith in
    ap (λ zs. f (k, y) ++ zs) (each_end f (k + 1) ys x ∙ ap (λ n. flat_map f (enumerate_from (k + 1) ys) ++ f (n, x)) sum)
    ∙ sym (append_assoc (f (k, y)) (flat_map f (enumerate_from (k + 1) ys)) (f (k + suc (length ys), x)))

at_end : (rungs : List Source) (n : ℕ) (r : Source) → n < length rungs → r ≡ get_or rungs n r → take (n + 1) rungs ≡ take n rungs ++ r ∷ []
at_end rungs n r h is = take_more rungs n r h ∙ ap (λ x. take n rungs ++ x ∷ []) (sym is)

-- a rung's labels come after those of the rungs before it
labels_end : (rungs : List Source) (n : ℕ) (r : Source) → n < length rungs → r ≡ get_or rungs n r → labels (take (n + 1) rungs) ≡ labels (take n rungs) ++ filter_map (label_at n) (enumerate_from 0 (instructions r))
labels_end rungs n r h is =
    let within : n ≤ length rungs = omega arith in
    let number : 0 + length (take n rungs) ≡ n = omega (arith, length-take-le n rungs within) in
    ap labels (at_end rungs n r h is)
    ∙ each_end (λ e. filter_map (label_at e.0) (enumerate_from 0 (instructions e.1))) 0 (take n rungs) r
    ∙ ap (λ k. labels (take n rungs) ++ filter_map (label_at k) (enumerate_from 0 (instructions r))) number

pub labels_none : (scope : CheckScope) (rungs : List Source) (p : Progress) → p ≡ record { scope = scope; labels = []; before = 0 } → HasLabels scope rungs 0 p
labels_none scope rungs p e = subst (HasLabels scope rungs 0) (sym e) (record { same_scope = refl; first_labels = refl; at_start = refl })

pub labels_more : (scope : CheckScope) (rungs : List Source) (n : ℕ) (r : Source) (old new : Progress) → HasLabels scope rungs n old → n < length rungs → r ≡ get_or rungs n r → new ≡ with_labels n r old → HasLabels scope rungs (n + 1) new
labels_more scope rungs n r old new has h is e =
    let own = filter_map (label_at n) (enumerate_from 0 (instructions r)) in
    subst (HasLabels scope rungs (n + 1)) (sym e)
    (record { same_scope = has.same_scope; first_labels = ap (λ ls. ls ++ own) has.first_labels ∙ sym (labels_end rungs n r h is); at_start = has.at_start })

pub labels_plain : (scope : CheckScope) (rungs : List Source) (n : ℕ) (r : Source) (p : Progress) → HasLabels scope rungs n p → n < length rungs → r ≡ get_or rungs n r → is_plain r ≡ true → HasLabels scope rungs (n + 1) p
labels_plain scope rungs n r p has h is plain =
    let none : labels (take (n + 1) rungs) ≡ labels (take n rungs) = labels_end rungs n r h is ∙ ap (λ ls. labels (take n rungs) ++ ls) (plain_labels n r plain) ∙ append-nil (labels (take n rungs)) in
    record { same_scope = has.same_scope; first_labels = has.first_labels ∙ sym none; at_start = has.at_start }

-- ---- rungs

abbrev count : List Source → ℕ
count rungs = sum_by (λ r. length (instructions r)) rungs

abbrev InstructionCheck : Type 0
InstructionCheck = Spot → SourceIns → Result Ins CheckFault

-- other rungs after these
abbrev then : List (Tree Ins) → Result (List (Tree Ins)) CheckFault → Result (List (Tree Ins)) CheckFault
then made others = others >>= λ rs. Ok (made ++ rs)

then_none : (others : Result (List (Tree Ins)) CheckFault) → then [] others ≡ others
then_none (Ok rs) = refl
then_none (Err e) = refl

then_one : (r : Tree Ins) (made : List (Tree Ins)) (others : Result (List (Tree Ins)) CheckFault) → (then made others >>= λ rs. Ok (r ∷ rs)) ≡ then (r ∷ made) others
then_one r made (Ok rs) = refl
then_one r made (Err e) = refl

-- what comes of rungs after others
rungs_after : (check : InstructionCheck) (k b : ℕ) (rs rest : List Source) (made : List (Tree Ins)) → checked_from check k b rs ≡ Ok made
    → checked_from check k b (rs ++ rest) ≡ then made (checked_from check (k + length rs) (b + count rs) rest)
rungs_after check k b [] rest made m =
    let here : k ≡ k + 0 = omega arith in
    let none : b ≡ b + 0 = omega arith in
    sym (then_none (checked_from check k b rest))
    ∙ ap (λ ms. then ms (checked_from check k b rest)) (ok_inj [] made m)
    ∙ ap (λ n. then made (checked_from check n b rest)) here
    ∙ ap (λ n. then made (checked_from check (k + 0) n rest)) none
rungs_after check k b (r ∷ rs) rest made m =
    let first = bind_ok (checked_tree check (start_of k b) r) _ made m in
    let others = bind_ok (checked_from check (suc k) (b + length (instructions r)) rs) _ made first.2 in
    let number : suc k + length rs ≡ k + suc (length rs) = omega arith in
    let sum : b + length (instructions r) + count rs ≡ b + count (r ∷ rs) = omega (arith, sum_by-cons (λ (x : Source). length (instructions x)) r rs) in
    ap (λ x. x >>= λ r'. checked_from check (suc k) (b + length (instructions r)) (rs ++ rest) >>= λ rs'. Ok (r' ∷ rs')) first.1
    ∙ ap (λ x. x >>= λ rs'. Ok (first.0 ∷ rs')) (rungs_after check (suc k) (b + length (instructions r)) rs rest others.0 others.1)
    ∙ then_one first.0 others.0 (checked_from check (suc k + length rs) (b + length (instructions r) + count rs) rest)
    ∙ ap (λ ms. then ms (checked_from check (suc k + length rs) (b + length (instructions r) + count rs) rest)) (ok_inj (first.0 ∷ others.0) made others.2)
    ∙ ap (λ n. then made (checked_from check n (b + length (instructions r) + count rs) rest)) number
    ∙ ap (λ n. then made (checked_from check (k + suc (length rs)) n rest)) sum

-- what comes of the n-th rung and others, after those before it
at_rung : (scope : CheckScope) (rungs : List Source) (n : ℕ) (r : Source) (rest : List Source) (made : List (Tree Ins)) (p : Progress) → Checks scope rungs n made p → n < length rungs
    → checked_from (instruction_of scope (labels rungs)) 0 0 (take n rungs ++ r ∷ rest)
    ≡ then made (checked_now n r p >>= λ r'. checked_from (instruction_of scope (labels rungs)) (suc n) (p.before + length (instructions r)) rest >>= λ rs'. Ok (r' ∷ rs'))
at_rung scope rungs n r rest made p are h =
    let check : InstructionCheck = instruction_of scope (labels rungs) in
    let within : n ≤ length rungs = omega arith in
    let number : 0 + length (take n rungs) ≡ n = omega (arith, length-take-le n rungs within) in
    let before : 0 + count (take n rungs) ≡ p.before = omega (arith, are.counted) in
    rungs_after check 0 0 (take n rungs) (r ∷ rest) made are.first_checked
    ∙ ap (λ k. then made (checked_from check k (0 + count (take n rungs)) (r ∷ rest))) number
    ∙ ap (λ b. then made (checked_from check n b (r ∷ rest))) before
    ∙ ap (λ ls. then made (checked_tree (instruction_of scope ls) (start_of n p.before) r >>= λ r'. checked_from check (suc n) (p.before + length (instructions r)) rest >>= λ rs'. Ok (r' ∷ rs'))) (sym are.all_labels)
    ∙ ap (λ (s : CheckScope). then made (checked_tree (instruction_of s p.labels) (start_of n p.before) r >>= λ r'. checked_from check (suc n) (p.before + length (instructions r)) rest >>= λ rs'. Ok (r' ∷ rs'))) (sym are.same_scope)

pub checks_none : (scope : CheckScope) (rungs : List Source) (n : ℕ) (p : Progress) → HasLabels scope rungs n p → length rungs ≤ n → Checks scope rungs 0 [] p
checks_none scope rungs n p has h = record { same_scope = has.same_scope; all_labels = has.first_labels ∙ ap labels (take_all n rungs h); counted = has.at_start; first_checked = refl }

pub checks_more : (scope : CheckScope) (rungs : List Source) (n : ℕ) (r : Source) (made : List (Tree Ins)) (r' : Tree Ins) (old new : Progress) → Checks scope rungs n made old → n < length rungs → r ≡ get_or rungs n r
    → checked_now n r old ≡ Ok r' → new ≡ after_rung (length (instructions r)) old → Checks scope rungs (n + 1) (made ++ r' ∷ []) new
checks_more scope rungs n r made r' old new are h is m e =
    let sum : old.before + length (instructions r) ≡ count (take n rungs ++ r ∷ []) = omega (arith, are.counted, sum_by-append (λ (x : Source). length (instructions x)) (take n rungs) (r ∷ [])) in
    subst (Checks scope rungs (n + 1) (made ++ r' ∷ [])) (sym e)
    (record {
      same_scope = are.same_scope;
      all_labels = are.all_labels;
      counted = sum ∙ ap count (sym (at_end rungs n r h is));
      first_checked =
          ap (λ rs. checked_from (instruction_of scope (labels rungs)) 0 0 rs) (at_end rungs n r h is)
          ∙ at_rung scope rungs n r [] made old are h
          ∙ ap (λ x. then made (x >>= λ r'. Ok (r' ∷ []))) m;
    })

pub checks_refused : (scope : CheckScope) (rungs : List Source) (n : ℕ) (r : Source) (made : List (Tree Ins)) (fault : CheckFault) (p : Progress) → Checks scope rungs n made p → n < length rungs → r ≡ get_or rungs n r
    → checked_now n r p ≡ Err fault → checked scope rungs ≡ Err fault
checks_refused scope rungs n r made fault p are h is m =
    let check : InstructionCheck = instruction_of scope (labels rungs) in
    let rest = drop (n + 1) rungs in
    let whole : rungs ≡ take n rungs ++ r ∷ rest = sym (take-append-drop n rungs) ∙ ap (λ xs. take n rungs ++ xs) (drop_more rungs n r h ∙ ap (λ x. x ∷ rest) (sym is)) in
    ap (checked_from check 0 0) whole
    ∙ at_rung scope rungs n r rest made p are h
    ∙ ap (λ x. then made (x >>= λ r'. checked_from check (suc n) (p.before + length (instructions r)) rest >>= λ rs'. Ok (r' ∷ rs'))) m

pub checks_all : (scope : CheckScope) (rungs : List Source) (n : ℕ) (made : List (Tree Ins)) (p : Progress) → Checks scope rungs n made p → length rungs ≤ n → checked scope rungs ≡ Ok made
checks_all scope rungs n made p are h = ap (λ rs. checked_from (instruction_of scope (labels rungs)) 0 0 rs) (sym (take_all n rungs h)) ∙ are.first_checked
