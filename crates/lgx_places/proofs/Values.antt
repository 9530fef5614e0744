-- Values at the start, and watched places.
use Rattle.std.proofs.Common.{◌≡◌, ℕ, Bool, true, not, List, codes, Option, Some, None, ℤ, ap, sym, subst, ◌∙◌}
use Rattle.lgx_num.specs.declared.place.Place.{Place}
use Rattle.lgx_num.specs.Image.{write}
use Rattle.lgx_num.specs.Number.{fits}
use Rattle.spec_base.specs.Causes.{IsFaultOf}
use Rattle.spec_project.specs.declared.described.Described.{Described}
use Rattle.spec_project.specs.declared.described.DescribedValue.{DescribedValue}
use Rattle.spec_project.specs.declared.fault.ProjectFault.{ProjectFault}
use Rattle.spec_project.specs.declared.fault.ProjectCode.TheVariants.{P5}
use Rattle.spec_project.specs.Faults.{or_else, here, in_field, refused_if}
use Rattle.spec_project.specs.Places.{initial_fault, place_fault, place_named, with_value}
use Rattle.lgx_json.proofs.Steps.{earlier, fielded}

-- whether a value fits at a place, if there is one
abbrev fits_in : ℤ → Option Place → Bool
fits_in value o = elim o [ Some place ↦ fits place.kind value | None ↦ true ]

abbrev initial_by : ℤ → Option ProjectFault → Option Place → Option ProjectFault
initial_by value fault o = or_else (in_field (codes "tag") fault) (in_field (codes "value") (refused_if (not (fits_in value o)) (here P5)))

abbrev put_in : List ℕ → ℤ → Option Place → List ℕ
put_in image value o = elim o [ Some place ↦ write image place value | None ↦ image ]

by_place : (p : Described) (v : DescribedValue) (text : List ℕ) (place : Place) → text ≡ v.tag → place_fault p text ≡ None → place_named p text ≡ Some place → initial_fault p v ≡ initial_by v.value None (Some place)
by_place p v text place is fault named =
    ap (λ o. initial_by v.value o (place_named p v.tag)) (ap (place_fault p) (sym is) ∙ fault)
    ∙ ap (λ o. initial_by v.value None o) (ap (place_named p) (sym is) ∙ named)

pub tag_refused : (p : Described) (v : DescribedValue) (text : List ℕ) (e r : Option ProjectFault) → text ≡ v.tag → IsFaultOf (place_fault p text) e → IsFaultOf (in_field (codes "tag") e) r → IsFaultOf (initial_fault p v) r
tag_refused p v text e r is h k =
    earlier (in_field (codes "tag") (place_fault p v.tag)) _ r
    (fielded (codes "tag") (place_fault p v.tag) e r (subst (λ (t : List ℕ). IsFaultOf (place_fault p t) e) is h) k)

-- what is left if its place isn't refused
place_passed : (p : Described) (v : DescribedValue) (text : List ℕ) (place : Place) → text ≡ v.tag → place_fault p text ≡ None → place_named p text ≡ Some place → initial_fault p v ≡ in_field (codes "value") (refused_if (not (fits place.kind v.value)) (here P5))
place_passed p v text place is fault named = by_place p v text place is fault named

pub value_refused : (p : Described) (v : DescribedValue) (text : List ℕ) (place : Place) (e r : Option ProjectFault) → text ≡ v.tag → place_fault p text ≡ None → place_named p text ≡ Some place
    → IsFaultOf (refused_if (not (fits place.kind v.value)) (here P5)) e → IsFaultOf (in_field (codes "value") e) r → IsFaultOf (initial_fault p v) r
value_refused p v text place e r is fault named h k =
    subst (λ (o : Option ProjectFault). IsFaultOf o r) (sym (place_passed p v text place is fault named)) (fielded (codes "value") (refused_if (not (fits place.kind v.value)) (here P5)) e r h k)

pub value_passes : (p : Described) (v : DescribedValue) (text : List ℕ) (place : Place) → text ≡ v.tag → place_fault p text ≡ None → place_named p text ≡ Some place
    → refused_if (not (fits place.kind v.value)) (here P5) ≡ None → initial_fault p v ≡ None
value_passes p v text place is fault named fit = place_passed p v text place is fault named ∙ ap (in_field (codes "value")) fit

pub value_put : (p : Described) (v : DescribedValue) (text image : List ℕ) (place : Place) → text ≡ v.tag → place_named p text ≡ Some place → with_value p image v ≡ write image place v.value
value_put p v text image place is named = ap (put_in image v.value) (ap (place_named p) (sym is) ∙ named)
