-- The bits to which subscripts lead.
use Rattle.std.specs.Prelude.{refl, ◌≡◌, ℕ, ◌+◌, ◌*◌, ◌%◌, ◌<◌, List, [], ◌∷◌, ◌++◌}
use Rattle.std.proofs.Common.{arith}
use Rattle.lgx_num.specs.Image.{InBounds}
use Rattle.lgx_num.specs.declared.place.Index.{Index}
use Rattle.lgx_num.specs.Paths.{CanReach, SubscriptsInBounds}

-- from so many bits further on
pub leads_behind : (is : List Index) (at k to : ℕ) → CanReach is (at + k) to → (b : ℕ) × CanReach is at b × (to ≡ b + k)
leads_behind [] at k to h = (at, refl, h)
leads_behind (i ∷ is) at k to h =
    let r = leads_behind is at k h.1 h.3 in
    (h.0 * i.stride + r.0, (h.0, r.0, h.2, r.1, refl), omega (arith, r.2, h.4))

-- with one more subscript after them
pub leads_more : (is : List Index) (j : Index) (at to : ℕ) → CanReach (is ++ j ∷ []) at to → (b n : ℕ) × CanReach is at b × (n < j.length) × (to ≡ b + n * j.stride)
leads_more [] j at to h = (at, h.0, refl, h.2, omega (arith, h.3, h.4))
leads_more (i ∷ is) j at to h =
    let r = leads_more is j at h.1 h.3 in
    (h.0 * i.stride + r.0, r.1, (h.0, r.0, h.2, r.2, refl), r.3, omega (arith, r.4, h.4))

pub subscripts_more : (is : List Index) (j : Index) (len : ℕ) → SubscriptsInBounds is len → (j.of.at % 8 ≡ 0) × InBounds j.of len → SubscriptsInBounds (is ++ j ∷ []) len
subscripts_more [] j len p q = (q.0, q.1, tt)
subscripts_more (i ∷ is) j len p q = (p.0, p.1, subscripts_more is j len p.2 q)
