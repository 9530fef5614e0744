-- A DINT at its byte and at its place.
use Rattle.std.proofs.Common.{◌≡◌, ℕ, ◌*◌, ◌/◌, List, ℤ, sym, ap, ◌∙◌, arith}
use Rattle.std.specs.Int.{w32}
use Rattle.lgx_num.specs.declared.number.Kind.{Kind}
use Rattle.lgx_num.specs.declared.number.Kind.TheVariants.{Dint}
use Rattle.lgx_num.specs.declared.place.Place.{Place}
use Rattle.lgx_num.specs.Number.{store_low}
use Rattle.lgx_num.specs.Image.{write, write_of, write_signed}

pub stored_dint : (image : List ℕ) (place : Place) (exact : ℤ) → place.kind ≡ Dint → write_of Dint image (8 * (place.at / 8)) (store_low Dint exact) ≡ write image place (store_low place.kind exact)
stored_dint image place exact is =
    let at : 8 * (place.at / 8) / 8 ≡ place.at / 8 = omega arith in
    ap (λ (k : ℕ). write_signed w32 image k (store_low Dint exact)) at
    ∙ sym (ap (λ (kind : Kind). write_of kind image place.at (store_low kind exact)) is)
