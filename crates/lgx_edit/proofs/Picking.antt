-- The rungs that are picked are the merged ones, and those of the base are known if the base is.
use Rattle.std.proofs.Common.{◌≡◌, ℕ, zero, suc, ◌<◌, true, List, [], ◌∷◌, ◌++◌, map, length, get_or, Option, Some, None, Ok, refl, ap, sym, subst, ◌∙◌, append_assoc}
use Rattle.std.specs.Prelude.{option_map, unwrap_or}
use Rattle.std.proofs.lemmas.List.{append-nil, map-append, get_or-map, length-map}
use Rattle.std.proofs.lemmas.List.Elements.{recursion_from_All, All-from_recursion}
use Rattle.spec_base.proofs.Lists.{each_append}
use Rattle.lgx_rung.specs.Tree.{Tree, Source}
use Rattle.lgx_rung.specs.declared.ins.Ins.{Ins}
use Rattle.spec_language.specs.Checked.{CheckScope, checked}
use Rattle.lgx_check.specs.Known.{is_plain, IsKnown}
use Rattle.lgx_edit.specs.declared.pick.Pick.{Pick}
use Rattle.lgx_edit.specs.declared.pick.Pick.TheVariants.{Old, New}
use Rattle.spec_machine.specs.Project.{RoutineText}
use Rattle.lgx_edit.specs.declared.changes.EditedRoutine.{EditedRoutine}
use Rattle.lgx_edit.specs.CheckedBooks.{AreTextsChecked}
use Rattle.lgx_edit.specs.Texts.{base_of}
use Rattle.lgx_edit.specs.Shared.{RungPair, sources, checkeds}
use Rattle.lgx_edit.specs.Picks.{pick_source, pick_sources, IsRungKnown, AreKnown, IsPickKnown, ArePicksKnown}
use Rattle.lgx_edit.specs.Merging.{AroundView, put_around, rest_of, woven}
use Rattle.lgx_edit.proofs.Merges.{sources_around, sources_woven}
use Rattle.lgx_check.proofs.Known.{known_in}

-- ---- the steps of the weaving loop

-- what is left of the rungs after so many
abbrev pub rest_after : ℕ → List RungPair → List RungPair
rest_after zero base = base
rest_after (suc n) base = rest_after n (rest_of base)

pub rest_more : (n : ℕ) (base : List RungPair) → rest_after (suc n) base ≡ rest_of (rest_after n base)
rest_more zero base = refl
rest_more (suc n) base = rest_more n (rest_of base)

pub woven_more : (base : List RungPair) (places : List AroundView) (a : AroundView) (rest : List RungPair) → rest ≡ rest_after (length places) base
    → woven base (places ++ a ∷ []) ≡ woven base places ++ put_around rest a
woven_more base [] a rest e = ap (λ (xs : List RungPair). put_around xs a ++ []) (sym e) ∙ append-nil (put_around rest a)
woven_more base (b ∷ places) a rest e =
    ap (λ (xs : List Pick). put_around base b ++ xs) (woven_more (rest_of base) places a rest e)
    ∙ sym (append_assoc (put_around base b) (woven (rest_of base) places) (put_around rest a))

-- ---- as they were written

new_sources : (xs : List Source) → pick_sources (map New xs) ≡ xs
new_sources [] = refl
new_sources (x ∷ xs) = ap (λ (ys : List Source). x ∷ ys) (new_sources xs)

rest_sources : (base : List RungPair) → sources (rest_of base) ≡ rest_of (sources base)
rest_sources [] = refl
rest_sources (r ∷ rs) = refl

around_sources : (base : List RungPair) (a : AroundView) → pick_sources (put_around base a) ≡ sources_around (sources base) a
around_sources [] a = new_sources a.before
around_sources (r ∷ rs) a =
    map-append pick_source (map New a.before) (unwrap_or (option_map (map New) a.instead) (Old r ∷ []))
    ∙ (ap (λ (xs : List Source). xs ++ pick_sources (unwrap_or (option_map (map New) a.instead) (Old r ∷ []))) (new_sources a.before)
    ∙ ap (λ (xs : List Source). a.before ++ xs) (by_instead a.instead))
  where
    by_instead : (o : Option (List Source)) → pick_sources (unwrap_or (option_map (map New) o) (Old r ∷ [])) ≡ unwrap_or o (r.source ∷ [])
    by_instead None = refl
    by_instead (Some xs) = new_sources xs

pub woven_sources : (base : List RungPair) (places : List AroundView) → pick_sources (woven base places) ≡ sources_woven (sources base) places
woven_sources base [] = refl
woven_sources base (a ∷ places) =
    map-append pick_source (put_around base a) (woven (rest_of base) places)
    ∙ (ap (λ (xs : List Source). xs ++ pick_sources (woven (rest_of base) places)) (around_sources base a)
    ∙ ap (λ (xs : List Source). sources_around (sources base) a ++ xs)
    (woven_sources (rest_of base) places ∙ ap (λ (b : List Source). sources_woven b places) (rest_sources base)))

-- ---- known

new_known : (scope : CheckScope) (xs : List Source) → ArePicksKnown scope (map New xs)
new_known scope [] = tt
new_known scope (x ∷ xs) = (tt, new_known scope xs)

rest_known : (scope : CheckScope) (base : List RungPair) → AreKnown scope base → AreKnown scope (rest_of base)
rest_known scope [] k = tt
rest_known scope (r ∷ rs) k = k.1

around_known : (scope : CheckScope) (base : List RungPair) (a : AroundView) → AreKnown scope base → ArePicksKnown scope (put_around base a)
around_known scope [] a k = new_known scope a.before
around_known scope (r ∷ rs) a k = each_append (IsPickKnown scope) (map New a.before) (unwrap_or (option_map (map New) a.instead) (Old r ∷ [])) (new_known scope a.before) (by_instead a.instead)
  where
    by_instead : (o : Option (List Source)) → ArePicksKnown scope (unwrap_or (option_map (map New) o) (Old r ∷ []))
    by_instead None = (k.0, tt)
    by_instead (Some xs) = new_known scope xs

pub woven_known : (scope : CheckScope) (base : List RungPair) (places : List AroundView) → AreKnown scope base → ArePicksKnown scope (woven base places)
woven_known scope base [] k = tt
woven_known scope base (a ∷ places) k =
    each_append (IsPickKnown scope) (put_around base a) (woven (rest_of base) places) (around_known scope base a k) (woven_known scope (rest_of base) places (rest_known scope base k))

-- the rungs of a routine that is checked are known
pub rungs_known : (scope : CheckScope) (rungs : List RungPair) → checked scope (sources rungs) ≡ Ok (checkeds rungs) → AreKnown scope rungs
rungs_known scope rungs is = recursion_from_All (IsRungKnown scope) rungs at
  where
    at : (k : ℕ) (d : RungPair) → k < length rungs → IsRungKnown scope (get_or rungs k d)
    at k d h plain =
        let source : get_or (sources rungs) k d.source ≡ (get_or rungs k d).source = get_or-map (λ (r : RungPair). r.source) rungs k d d.source h in
        let made : get_or (checkeds rungs) k d.checked ≡ (get_or rungs k d).checked = get_or-map (λ (r : RungPair). r.checked) rungs k d d.checked h in
        subst (λ (s : Source). IsKnown scope s (get_or rungs k d).checked) source
        (subst (λ (m : Tree Ins). IsKnown scope (get_or (sources rungs) k d.source) m) made
        (known_in scope (sources rungs) (checkeds rungs) k d.source d.checked is (subst (λ n. k < n) (sym (length-map rungs (λ (r : RungPair). r.source))) h)
        (subst (λ (s : Source). is_plain s ≡ true) (sym source) plain)))

-- those of a routine's base, if the bases are checked
pub texts_known : (scope : CheckScope) (routines : List EditedRoutine) (r : ℕ) (x : EditedRoutine) → r < length routines → x ≡ get_or routines r x → AreTextsChecked scope (map base_of routines)
    → AreKnown scope x.base.rungs
texts_known scope routines r x h is are =
    rungs_known scope x.base.rungs
    (subst (λ (t : RoutineText). checked scope t.source ≡ Ok t.checked) (get_or-map base_of routines r x (base_of x) h ∙ ap base_of (sym is))
    (All-from_recursion (λ (t : RoutineText). checked scope t.source ≡ Ok t.checked) (map base_of routines) are r (base_of x) (subst (λ n. r < n) (sym (length-map routines base_of)) h)))
