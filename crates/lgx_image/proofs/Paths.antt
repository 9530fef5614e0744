-- Where paths lead.
use Rattle.std.proofs.Common.{◌≡◌, ℕ, zero, suc, ◌+◌, ◌-◌, ◌*◌, ◌^◌, ◌<◌, ◌≤◌, min, List, [], ◌∷◌, length, get_or, drop, ℤ, Option, Some, None, refl, sym, ap, ◌∙◌, arith, drop-cons}
use Rattle.std.proofs.lemmas.List.{drop_all}
use Rattle.spec_base.specs.declared.limits.TheConstants.{MAX_IMAGE_BYTES}
use Rattle.lgx_num.specs.declared.place.Index.{Index}
use Rattle.lgx_num.specs.declared.place.Path.{Path}
use Rattle.lgx_num.specs.Image.{number, step_by, moved, path_offset, bit_of, InBounds}
use Rattle.lgx_num.specs.Paths.{SubscriptsInBounds, PathInBounds}
use Rattle.lgx_num.proofs.Subscripts.{subscripts_stay_in_range}
use Rattle.lgx_image.specs.Words.{cut, cut_step}

-- a subscript of a path whose subscripts lie in the image
pub subscript_lies : (is : List Index) (len k : ℕ) (d : Index) → SubscriptsInBounds is len → k < length is → InBounds (get_or is k d).of len
subscript_lies [] len k d lie within = absurd (omega arith)
subscript_lies (i ∷ is) len zero d lie within = lie.1
subscript_lies (i ∷ is) len (suc k) d lie within = subscript_lies is len k d lie.2 (omega arith)

-- ---- the sum of the subscripts so far, and those that are left

abbrev pub Continues : List ℕ → List Index → ℕ → ℕ → ℕ → Type 0
Continues image is from so_far k = (sum : ℕ) × (so_far ≡ cut (from + sum)) × (path_offset image is from ≡ moved (Some sum) (path_offset image (drop k is) from))

moved_zero : (o : Option ℕ) → o ≡ moved (Some 0) o
moved_zero (Some a) = ap Some (omega arith)
moved_zero None = refl

moved_twice : (a b : ℕ) (o : Option ℕ) → moved (Some a) (moved (Some b) o) ≡ moved (Some (a + b)) o
moved_twice a b (Some c) = ap Some (omega arith)
moved_twice a b None = refl

moved_none : (a : Option ℕ) (o : Option ℕ) → moved a (moved None o) ≡ None
moved_none (Some a) (Some c) = refl
moved_none (Some a) None = refl
moved_none None (Some c) = refl
moved_none None None = refl

pub continues_none : (image : List ℕ) (is : List Index) (from : ℕ) → from < 2 ^ 32 → Continues image is from from 0
continues_none image is from small = (0, omega arith, moved_zero (path_offset image is from))

-- the step that is left first
next_step : (image : List ℕ) (is : List Index) (from k : ℕ) (d : Index) → k < length is → path_offset image (drop k is) from ≡ moved (step_by (get_or is k d) (number image (get_or is k d).of)) (path_offset image (drop (k + 1) is) from)
next_step image is from k d within =
    let one : suc k ≡ k + 1 = omega arith in
    ap (λ (js : List Index). path_offset image js from) (drop-cons is k d within)
    ∙ ap (λ (j : ℕ). moved (step_by (get_or is k d) (number image (get_or is k d).of)) (path_offset image (drop j is) from)) one

cut_is : (o : Option ℕ) (step : ℕ) → cut_step o ≡ Some step → (n : ℕ) × (o ≡ Some n) × (step ≡ cut n)
cut_is (Some n) step is = (n, refl, cc)
cut_is None step is = cc

cut_none : (o : Option ℕ) → cut_step o ≡ None → o ≡ None
cut_none (Some n) is = cc
cut_none None is = refl

-- what a step of the loop has worked out
pub step_taken : (image : List ℕ) (js is : List Index) (k : ℕ) (d : Index) (n m : ℤ) (o found : Option ℕ) → js ≡ is → n ≡ number image (get_or js k d).of → m ≡ n → o ≡ cut_step (step_by (get_or js k d) m) → o ≡ found → cut_step (step_by (get_or is k d) (number image (get_or is k d).of)) ≡ found
step_taken image js is k d n m o found same read passed stepped was = cc

pub continues_more : (image : List ℕ) (is : List Index) (from so_far k step : ℕ) (d : Index) → k < length is → cut_step (step_by (get_or is k d) (number image (get_or is k d).of)) ≡ Some step → Continues image is from so_far k → Continues image is from (min (so_far + step) (2 ^ 32 - 1)) (k + 1)
continues_more image is from so_far k step d within by so =
    let n = cut_is (step_by (get_or is k d) (number image (get_or is k d).of)) step by in
    let rest = path_offset image (drop (k + 1) is) from in
    let here : path_offset image (drop k is) from ≡ moved (Some n.0) rest = next_step image is from k d within ∙ ap (λ (o : Option ℕ). moved o rest) n.1 in
    (so.0 + n.0, omega (arith, so.1, n.2), so.2 ∙ ap (moved (Some so.0)) here ∙ moved_twice so.0 n.0 rest)

pub continues_stops : (image : List ℕ) (is : List Index) (from so_far k : ℕ) (d : Index) → k < length is → cut_step (step_by (get_or is k d) (number image (get_or is k d).of)) ≡ None → Continues image is from so_far k → path_offset image is from ≡ None
continues_stops image is from so_far k d within by so =
    let none = cut_none (step_by (get_or is k d) (number image (get_or is k d).of)) by in
    let rest = path_offset image (drop (k + 1) is) from in
    let here : path_offset image (drop k is) from ≡ moved None rest = next_step image is from k d within ∙ ap (λ (o : Option ℕ). moved o rest) none in
    so.2 ∙ ap (moved (Some so.0)) here ∙ moved_none (Some so.0) rest

pub continues_all : (image : List ℕ) (p : Path) (so_far k len : ℕ) → length p.steps ≤ k → len ≤ MAX_IMAGE_BYTES → PathInBounds p len (λ to. to ≤ 8 * len) → Continues image p.steps p.at so_far k → Some so_far ≡ bit_of image p
continues_all image p so_far k len past room lies so =
    let end : bit_of image p ≡ Some (so.0 + p.at) = so.2 ∙ ap (λ js. moved (Some so.0) (path_offset image js p.at)) (drop_all k p.steps past) in
    let to = lies.1 (so.0 + p.at) (subscripts_stay_in_range image p (so.0 + p.at) end) in
    ap Some (omega (arith, so.1)) ∙ sym end
