-- Where subscripts lead.
use Rattle.std.proofs.Common.{◌≡◌, ℕ, ◌+◌, ◌*◌, ◌<◌, List, [], ◌∷◌, Bool, true, false, ℤ, pos, negsuc, Option, Some, None, if◌then◌else◌, refl}
use Rattle.std.specs.Prelude.{nat_lt}
use Rattle.std.proofs.lemmas.Bool.{ltb-true}
use Rattle.lgx_num.specs.declared.place.Index.{Index}
use Rattle.lgx_num.specs.Image.{number, step_by, moved, path_offset}
use Rattle.lgx_num.specs.Paths.{CanReach}
use Rattle.lgx_num.specs.Laws.{SubscriptsStayInRange}

-- a subscript that leads on is a number in range
abbrev pub Step : Index → Option ℕ → ℕ → Type 0
Step i from to = (n : ℕ) × (rest : ℕ) × (n < i.length) × (from ≡ Some rest) × (to ≡ n * i.stride + rest)

in_range : (i : Index) (n rest to : ℕ) (within : Bool) → nat_lt n i.length ≡ within → moved (if within then Some (n * i.stride) else None) (Some rest) ≡ Some to → Step i (Some rest) to
in_range i n rest to true below e = (n, rest, ltb-true n i.length below, refl, cc)
in_range i n rest to false past e = cc

step : (i : Index) (v : ℤ) (from : Option ℕ) (to : ℕ) → moved (step_by i v) from ≡ Some to → Step i from to
step i (pos n) (Some rest) to e = in_range i n rest to (nat_lt n i.length) refl e
step i (pos n) None to e = none n (nat_lt n i.length) e
  where
    none : (n : ℕ) (within : Bool) → moved (if within then Some (n * i.stride) else None) None ≡ Some to → Step i None to
    none n true e = cc
    none n false e = cc
step i (negsuc n) (Some rest) to e = cc
step i (negsuc n) None to e = cc

leads : (image : List ℕ) (is : List Index) (at to : ℕ) → path_offset image is at ≡ Some to → CanReach is at to
leads image [] at to e = cc
leads image (i ∷ is) at to e =
    let s = step i (number image i.of) (path_offset image is at) to e in
    (s.0, s.1, s.2, leads image is at s.1 s.3, s.4)

pub subscripts_stay_in_range : SubscriptsStayInRange
subscripts_stay_in_range image p to e = leads image p.steps p.at to e
