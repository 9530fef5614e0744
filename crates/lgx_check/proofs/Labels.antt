-- Labels, instruction by instruction.
use Rattle.std.proofs.Common.{◌≡◌, ℕ, zero, suc, ◌+◌, ◌<◌, ◌≤◌, Bool, true, false, cond, not, List, [], ◌∷◌, ◌++◌, length, get_or, drop, refl, ap, sym, ◌∙◌, append_assoc, length-append, arith, Option, Some, None, position}
use Rattle.std.specs.Prelude.{filter_map, option_and_then, option_map, slice_get, nat_lt}
use Rattle.std.specs.List.{enumerate_from, position_or_len}
use Rattle.std.specs.List.{cons_option}
use Rattle.std.proofs.lemmas.Bool.Decides.{nat_tests}
use Rattle.std.proofs.lemmas.List.{append-nil, drop_more}
use Rattle.lgx_num.specs.Name.{same}
use Rattle.lgx_rung.specs.Elements.{tree_of}
use Rattle.lgx_rung.specs.Tree.{Source, SourceIns, instructions, leg_instructions, legs_of}
use Rattle.lgx_rung.specs.declared.rung.Element.{Element}
use Rattle.lgx_rung.specs.declared.rung.Element.TheVariants.{Ins, Fork}
use Rattle.spec_language.specs.Checked.{Label, label_of, labels}
use Rattle.spec_language.specs.Checked as checking
use Rattle.lgx_check.specs.declared.label.LabelPlace.{LabelPlace}
use Rattle.lgx_check.specs.LabelLists.{labels_at}
use Rattle.lgx_num.specs.declared.place.Operand.{Operand}
use Rattle.lgx_num.specs.declared.place.Operand.TheVariants as operand
use Rattle.lgx_check.specs.Labels.{elsewhere, label_at, label_place, labels_from, place_after}

-- ---- a label more, and the first of a name

pub labels_push : (names : List (List ℕ)) (places : List LabelPlace) (name : List ℕ) (place : LabelPlace) → length names ≡ length places → labels_at (names ++ name ∷ []) (places ++ place ∷ []) ≡ labels_at names places ++ label_at name place ∷ []
labels_push [] [] name place e = refl
labels_push [] (p ∷ places) name place e = absurd (omega (arith, e))
labels_push (n ∷ names) [] name place e = absurd (omega (arith, e))
labels_push (n ∷ names) (p ∷ places) name place e = ap (λ ls. label_at n p ∷ ls) (labels_push names places name place (omega (arith, e)))

-- the test that finds a name among names passes the label at its place
place_found : (text : List ℕ) (names : List (List ℕ)) (places : List LabelPlace) → length names ≡ length places
    → slice_get places (position_or_len (λ name. same name text) names) ≡ option_map label_place (label_of (labels_at names places) text)
place_found text [] [] e = refl
place_found text [] (p ∷ places) e = absurd (omega (arith, e))
place_found text (n ∷ names) [] e = absurd (omega (arith, e))
place_found text (n ∷ names) (p ∷ places) e = go (same n text) (place_found text names places (omega (arith, e)))
  where
    go : (b : Bool) → slice_get places (position_or_len (λ name. same name text) names) ≡ option_map label_place (label_of (labels_at names places) text)
        → slice_get (p ∷ places) (cond (not b) (1 + position_or_len (λ name. same name text) names) 0) ≡ option_map label_place (cond b (Some (label_at n p)) (label_of (labels_at names places) text))
    go true known = refl
    go false known = let next : 1 + position_or_len (λ name. same name text) names ≡ suc (position_or_len (λ name. same name text) names) = omega arith in rw next known

none_there : {X : Type 0} (xs : List X) (n : ℕ) → length xs ≤ n → slice_get xs n ≡ None
none_there [] n h = refl
none_there (x ∷ xs) zero h = absurd (omega arith)
none_there (x ∷ xs) (suc n) h = none_there xs n (omega arith)

pub find_place : (text : List ℕ) (names : List (List ℕ)) (places : List LabelPlace) (o : Option ℕ) → length names ≡ length places → o ≡ position (λ name. same name text) names
    → option_and_then (slice_get places) o ≡ option_map label_place (label_of (labels_at names places) text)
find_place text names places o e p = ap (option_and_then (slice_get places)) p ∙ go (nat_lt (position_or_len (λ name. same name text) names) (length names)) refl
  where
    go : (b : Bool) → nat_lt (position_or_len (λ name. same name text) names) (length names) ≡ b
        → option_and_then (slice_get places) (cond b (Some (position_or_len (λ name. same name text) names)) None) ≡ option_map label_place (label_of (labels_at names places) text)
    go true q = place_found text names places e
    go false q =
        let beyond : length places ≤ position_or_len (λ name. same name text) names = let more : length names ≤ position_or_len (λ name. same name text) names = grind (arith, nat_tests) in omega (arith, e) in
        sym (none_there places (position_or_len (λ name. same name text) names) beyond) ∙ place_found text names places e

-- ---- instructions one after another

pub place_same : (p : LabelPlace) → place_after 0 p ≡ p
place_same p = let none : p.ins + 0 ≡ p.ins = omega arith in ap (λ n. record { rung = p.rung; ins = n }) none

place_sum : (a b : ℕ) (p : LabelPlace) → place_after (a + b) p ≡ place_after b (place_after a p)
place_sum a b p = let sum : p.ins + (a + b) ≡ p.ins + a + b = omega arith in ap (λ n. record { rung = p.rung; ins = n }) sum

labels_sum : (rung n : ℕ) (is js : List SourceIns) → filter_map (checking.label_at rung) (enumerate_from n (is ++ js)) ≡ filter_map (checking.label_at rung) (enumerate_from n is) ++ filter_map (checking.label_at rung) (enumerate_from (n + length is) js)
labels_sum rung n [] js = let none : n ≡ n + 0 = omega arith in ap (λ k. filter_map (checking.label_at rung) (enumerate_from k js)) none
labels_sum rung n (i ∷ is) js =
    let sum : n + 1 + length is ≡ n + suc (length is) = omega arith in
    go (checking.label_at rung (n, i)) _ _ _ (labels_sum rung (n + 1) is js ∙ ap (λ k. filter_map (checking.label_at rung) (enumerate_from (n + 1) is) ++ filter_map (checking.label_at rung) (enumerate_from k js)) sum)
  where
    go : (o : Option Label) (ls bs cs : List Label) → ls ≡ bs ++ cs → cons_option o ls ≡ cons_option o bs ++ cs
    go (Some l) ls bs cs known = ap (λ ls. l ∷ ls) known
    go None ls bs cs known = known

pub labels_more : (place : LabelPlace) (is js : List SourceIns) → labels_from place (is ++ js) ≡ labels_from place is ++ labels_from (place_after (length is) place) js
labels_more place is js = labels_sum place.rung place.ins is js

-- ---- elements, legs and rungs one after another

pub elements_first : (e : Element) (es : List Element) → instructions (tree_of (e ∷ es)) ≡ instructions (tree_of (e ∷ [])) ++ instructions (tree_of es)
elements_first (Ins op texts) es = refl
elements_first (Fork []) es = refl
elements_first (Fork (t ∷ ts)) es = simp (append_assoc, append-nil)

-- what is left after an element, of a rung that was read so far
labels_step : (before after : LabelPlace) (old now : List Label) (is js : List SourceIns) → now ≡ old ++ labels_from before is → after ≡ place_after (length is) before → now ++ labels_from after js ≡ old ++ labels_from before (is ++ js)
labels_step before after old now is js h p =
    ap (λ ls. ls ++ labels_from after js) h
    ∙ append_assoc old (labels_from before is) (labels_from after js)
    ∙ ap (λ ls. old ++ ls) (ap (λ q. labels_from before is ++ labels_from q js) p ∙ sym (labels_more before is js))

place_step : (before after : LabelPlace) (is js : List SourceIns) → after ≡ place_after (length is) before → place_after (length js) after ≡ place_after (length (is ++ js)) before
place_step before after is js p =
    ap (place_after (length js)) p
    ∙ sym (place_sum (length is) (length js) before)
    ∙ ap (λ n. place_after n before) (sym (length-append is js))

pub at_element : (es : List Element) (i : ℕ) (e : Element) → i < length es → e ≡ get_or es i e → instructions (tree_of (drop i es)) ≡ instructions (tree_of (e ∷ [])) ++ instructions (tree_of (drop (i + 1) es))
at_element es i e h is = ap (λ x. instructions (tree_of x)) (drop_more es i e h ∙ ap (λ x. x ∷ drop (i + 1) es) (sym is)) ∙ elements_first e (drop (i + 1) es)

pub element_labels : (es : List Element) (i : ℕ) (e : Element) (before after : LabelPlace) (old now : List Label) → i < length es → e ≡ get_or es i e
    → now ≡ old ++ labels_from before (instructions (tree_of (e ∷ []))) → after ≡ place_after (length (instructions (tree_of (e ∷ [])))) before
    → now ++ labels_from after (instructions (tree_of (drop (i + 1) es))) ≡ old ++ labels_from before (instructions (tree_of (drop i es)))
element_labels es i e before after old now h is l p =
    labels_step before after old now (instructions (tree_of (e ∷ []))) (instructions (tree_of (drop (i + 1) es))) l p
    ∙ ap (λ x. old ++ labels_from before x) (sym (at_element es i e h is))

pub element_place : (es : List Element) (i : ℕ) (e : Element) (before after : LabelPlace) → i < length es → e ≡ get_or es i e
    → after ≡ place_after (length (instructions (tree_of (e ∷ [])))) before
    → place_after (length (instructions (tree_of (drop (i + 1) es)))) after ≡ place_after (length (instructions (tree_of (drop i es)))) before
element_place es i e before after h is p =
    place_step before after (instructions (tree_of (e ∷ []))) (instructions (tree_of (drop (i + 1) es))) p
    ∙ ap (λ x. place_after (length x) before) (sym (at_element es i e h is))

pub at_leg : (ts : List Source) (i : ℕ) (t : Source) → i < length ts → t ≡ get_or ts i t → leg_instructions (legs_of (drop i ts)) ≡ instructions t ++ leg_instructions (legs_of (drop (i + 1) ts))
at_leg ts i t h is = ap (λ x. leg_instructions (legs_of x)) (drop_more ts i t h ∙ ap (λ x. x ∷ drop (i + 1) ts) (sym is))

pub leg_labels : (ts : List Source) (i : ℕ) (t : Source) (before after : LabelPlace) (old now : List Label) → i < length ts → t ≡ get_or ts i t
    → now ≡ old ++ labels_from before (instructions t) → after ≡ place_after (length (instructions t)) before
    → now ++ labels_from after (leg_instructions (legs_of (drop (i + 1) ts))) ≡ old ++ labels_from before (leg_instructions (legs_of (drop i ts)))
leg_labels ts i t before after old now h is l p =
    labels_step before after old now (instructions t) (leg_instructions (legs_of (drop (i + 1) ts))) l p
    ∙ ap (λ x. old ++ labels_from before x) (sym (at_leg ts i t h is))

pub leg_place : (ts : List Source) (i : ℕ) (t : Source) (before after : LabelPlace) → i < length ts → t ≡ get_or ts i t
    → after ≡ place_after (length (instructions t)) before
    → place_after (length (leg_instructions (legs_of (drop (i + 1) ts)))) after ≡ place_after (length (leg_instructions (legs_of (drop i ts)))) before
leg_place ts i t before after h is p =
    place_step before after (instructions t) (leg_instructions (legs_of (drop (i + 1) ts))) p
    ∙ ap (λ x. place_after (length x) before) (sym (at_leg ts i t h is))

-- ---- what is found

pub elsewhere_same : (spot : checking.Spot) (o : Option Label) → elsewhere spot (option_map label_place o) ≡ checking.stands_elsewhere spot o
elsewhere_same spot None = refl
elsewhere_same spot (Some l) = refl

-- the operand of a label's place
abbrev pub place_operand : Option LabelPlace → Option Operand
place_operand found = option_map (λ (p : LabelPlace). operand.Label p.rung) found

pub label_found : (found : Option LabelPlace) (o : Option Label) → found ≡ option_map label_place o → place_operand found ≡ option_map (λ l. operand.Label l.rung) o
label_found found o h = ap place_operand h ∙ go o
  where
    go : (o : Option Label) → place_operand (option_map label_place o) ≡ option_map (λ l. operand.Label l.rung) o
    go None = refl
    go (Some l) = refl
