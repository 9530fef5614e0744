-- What texts name, where nothing of them is refused.
use Rattle.std.specs.Prelude.{◌≡◌, ℕ, suc, zero, ◌+◌, ◌*◌, ◌≤◌, Bool, true, false, not, List, [], ◌∷◌, length, filter_map, fold, replicate, Option, Some, None, Result, Ok, Err, IsTrue, refl}
use Rattle.std.specs.List.{AllByRecursion as Each}
use Rattle.std.proofs.Common.{sym, subst, ◌∙◌, arith}
use Rattle.std.proofs.lemmas.Bool.{and_right}
use Rattle.std.proofs.lemmas.List.{length-replicate}
use Rattle.lgx_num.specs.Image.{bits_of}
use Rattle.lgx_num.specs.Paths.{CanReach}
use Rattle.lgx_num.specs.declared.place.Place.{Place}
use Rattle.lgx_num.proofs.Images.{write_keeps_length}
use Rattle.spec_valid.proofs.FoundAligned.{aligned_fixed}
use Rattle.spec_base.proofs.Binds.{err_not_ok}
use Rattle.spec_language.specs.Declarations.{Declarations, bytes}
use Rattle.spec_language.specs.Resolution.{found_fixed, is_array, kind_of}
use Rattle.spec_language.specs.ResolutionLaws.{EndsBy, LiesIn, Sound}
use Rattle.spec_language.specs.declared.tag.Found.{Found}
use Rattle.spec_language.specs.declared.tag.Scope.{Scope}
use Rattle.spec_language.specs.declared.tag.Scope.TheVariants.{Controller, Program}
use Rattle.spec_language.specs.declared.tag.TagCode.{TagCode}
use Rattle.spec_language.specs.declared.tag.TagCode.TheVariants.{G3}
use Rattle.spec_language.specs.declared.types.Base.{Base}
use Rattle.spec_language.specs.declared.types.Base.TheVariants.{Bool as OneBit, Sint, Int, Dint, Timer, Counter, User}
use Rattle.spec_language.specs.declared.types.TypeDecl.{TypeDecl}
use Rattle.spec_language.proofs.FoundBounds.{fixed_lies}
use Rattle.spec_machine.specs.ValidProject.{IsWatchable}
use Rattle.spec_project.specs.Places.{found_in, has_scope, image_of, is_one_value, place_fault, place_named, place_of, scope_name, scope_rest, watch_of, with_value}
use Rattle.spec_project.specs.Schedules.{program_named}
use Rattle.spec_project.specs.Tags.{declarations}
use Rattle.spec_project.specs.declared.described.Described.{Described}
use Rattle.spec_project.specs.declared.described.DescribedValue.{DescribedValue}
use Rattle.spec_valid.proofs.Passes.{is_so}

-- ---- the image

value_kept : (p : Described) (image : List ℕ) (v : DescribedValue) → length (with_value p image v) ≡ length image
value_kept p image v = go (place_named p v.tag) refl
  where
    go : (o : Option Place) → place_named p v.tag ≡ o → length (with_value p image v) ≡ length image
    go (Some place) e = rw (e, with_value) (write_keeps_length image place v.value)
    go None e = rw (e, with_value) refl

values_kept : (p : Described) (image : List ℕ) (vs : List DescribedValue)
    → length (fold (with_value p) image vs) ≡ length image
values_kept p image [] = refl
values_kept p image (v ∷ vs) = values_kept p (with_value p image v) vs ∙ value_kept p image v

pub image_length : (p : Described) → length (image_of p) ≡ bytes (declarations p)
image_length p = values_kept p (replicate (bytes (declarations p)) 0) p.initial ∙ length-replicate (bytes (declarations p)) 0

-- ---- what a text with or without a scope names

-- a text names it in some scope
pub record IsFixed (d : Declarations) (f : Found) : Type 0 where
  pub scope : Scope
  pub text : List ℕ
  pub is : found_fixed d scope text ≡ Ok f

pub found_fixed_in : (p : Described) (text : List ℕ) (f : Found) → found_in p text ≡ Ok f → IsFixed (declarations p) f
found_fixed_in p text f h = by_scope (has_scope text) refl
  where
    in_program : has_scope text ≡ true → (o : Option ℕ) → program_named p (scope_name text) ≡ o
        → IsFixed (declarations p) f
    in_program s None e = let q : Err G3 ≡ Ok f = rw (s, e) at h in err_not_ok _ _ q
    in_program s (Some n) e = record { scope = Program n; text = scope_rest text; is = rw (s, e) at h }

    by_scope : (b : Bool) → has_scope text ≡ b → IsFixed (declarations p) f
    by_scope true s = in_program s (program_named p (scope_name text)) refl
    by_scope false s = record { scope = Controller; text = text; is = rw s at h }

-- it lies in the image, where nothing moves it
pub lies_alone : (d : Declarations) (scope : Scope) (text : List ℕ) (f : Found) → Sound d
    → found_fixed d scope text ≡ Ok f → LiesIn d.types (bytes d) f × EndsBy d.types f.of f.stop f.at
lies_alone d scope text f sound h =
    let lies = fixed_lies d scope text f sound h in
    (lies.0, lies.0.inside f.at (reached lies.1))
  where
    reached : f.steps ≡ [] → CanReach f.steps f.at f.at
    reached e = rw e refl

-- ---- watched places

-- a place of one value has room for its number
has_room : (types : List TypeDecl) (base : Base) (dim at stop : ℕ)
    → IsTrue (is_one_value (record { base = base; dim = dim }))
    → EndsBy types (record { base = base; dim = dim }) stop at → at + bits_of (kind_of base) ≤ 8 * stop
has_room types OneBit zero at stop one e = omega (arith, e.1)
has_room types OneBit (suc n) at stop one e = omega (arith, e.1)
has_room types Sint zero at stop one e = omega (arith, e.1)
has_room types Sint (suc n) at stop one e = omega (arith, e.1)
has_room types Int zero at stop one e = omega (arith, e.1)
has_room types Int (suc n) at stop one e = omega (arith, e.1)
has_room types Dint zero at stop one e = omega (arith, e.1)
has_room types Dint (suc n) at stop one e = omega (arith, e.1)
has_room types Timer zero at stop one e = omega (arith, e.1)
has_room types Timer (suc n) at stop one e = omega (arith, e.1)
has_room types Counter zero at stop one e = omega (arith, e.1)
has_room types Counter (suc n) at stop one e = omega (arith, e.1)
has_room types (User i) dim at stop one e =
    let none : false ≡ true = sym (and_right (not (is_array (record { base = User i; dim = dim }))) false refl) ∙ one in
    absurd (cc none)

watchable : (p : Described) (text place_text : List ℕ) (f : Found) → Sound (declarations p) → found_in p text ≡ Ok f
    → IsTrue (is_one_value f.of)
    → IsWatchable (bytes (declarations p)) (record { text = place_text; place = place_of f })
watchable p text place_text f sound h one =
    let d = declarations p in
    let fixed = found_fixed_in p text f h in
    let lies = lies_alone d fixed.scope fixed.text f sound fixed.is in
    let room = has_room d.types f.of.base f.of.dim f.at f.stop one lies.1 in
    let stop = lies.0.stop in
    record { inside = (lies.1.0, omega arith); aligned = aligned_fixed d fixed.scope fixed.text f fixed.is }

watches_of : (p : Described) → Sound (declarations p) → (texts : List (List ℕ))
    → Each (λ text. place_fault p text ≡ None) texts
    → Each (IsWatchable (bytes (declarations p))) (filter_map (watch_of p) texts)
watches_of p sound [] h = tt
watches_of p sound (text ∷ texts) h = go (found_in p text) refl (watches_of p sound texts h.1)
  where
    go : (r : Result Found TagCode) → found_in p text ≡ r
        → Each (IsWatchable (bytes (declarations p))) (filter_map (watch_of p) texts)
        → Each (IsWatchable (bytes (declarations p))) (filter_map (watch_of p) (text ∷ texts))
    go (Ok f) e rest =
        let one : IsTrue (is_one_value f.of) = is_so _ _ (rw e at h.0) in
        rw (e, place_named, watch_of) (watchable p text text f sound e one, rest)
    go (Err code) e rest = rw (e, place_named, watch_of) rest

pub valid_watches : (p : Described) → Sound (declarations p) → Each (λ text. place_fault p text ≡ None) p.watch
    → Each (IsWatchable (length (image_of p))) (filter_map (watch_of p) p.watch)
valid_watches p sound h = subst (λ (len : ℕ). Each (IsWatchable len) (filter_map (watch_of p) p.watch)) (sym (image_length p)) (watches_of p sound p.watch h)
