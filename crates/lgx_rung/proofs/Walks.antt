-- A walk down a rung ends: measures for a recursion over a rung, an element and a fork's legs.
use Rattle.std.proofs.Common.{◌≡◌, ℕ, zero, suc, ◌+◌, ◌<◌, List, [], ◌∷◌, length, get_or, sym, subst, arith}
use Rattle.lgx_rung.specs.declared.rung.Element.{Element}
use Rattle.lgx_rung.specs.declared.rung.Element.TheVariants.{Ins, Fork}
use Rattle.lgx_rung.specs.Elements.{tree_of}
use Rattle.lgx_rung.specs.Sizes.{tree_size, list_size}
use Rattle.lgx_rung.specs.Tree.{Source}

abbrev pub element_size : Element → ℕ
element_size (Ins op texts) = 0
element_size (Fork legs) = list_size legs + 1

pub element_falls : (es : List Element) (i : ℕ) (d : Element) → i < length es → element_size (get_or es i d) < tree_size (tree_of es)
element_falls [] i d h = absurd (omega arith)
element_falls (Ins op texts ∷ es) zero d h = omega arith
element_falls (Fork [] ∷ es) zero d h = omega arith
element_falls (Fork (t ∷ ts) ∷ es) zero d h = omega arith
element_falls (Ins op texts ∷ es) (suc i) d h = let k : i < length es = omega arith in omega (arith, element_falls es i d k)
element_falls (Fork [] ∷ es) (suc i) d h = let k : i < length es = omega arith in omega (arith, element_falls es i d k)
element_falls (Fork (t ∷ ts) ∷ es) (suc i) d h = let k : i < length es = omega arith in omega (arith, element_falls es i d k)

pub leg_falls : (ts : List Source) (i : ℕ) (d : Source) → i < length ts → tree_size (get_or ts i d) < list_size ts
leg_falls [] i d h = absurd (omega arith)
leg_falls (t ∷ ts) zero d h = omega arith
leg_falls (t ∷ ts) (suc i) d h = let k : i < length ts = omega arith in omega (arith, leg_falls ts i d k)

-- the same of an element that is met in a rung, and of a leg that is met in a fork
pub element_of : (es : List Element) (i : ℕ) (e : Element) (r : Source) → tree_of es ≡ r → i < length es → e ≡ get_or es i e → element_size e < tree_size r
element_of es i e r t h is =
    let falls : element_size (get_or es i e) < tree_size (tree_of es) = element_falls es i e h in
    subst (λ x. element_size e < tree_size x) t (subst (λ x. element_size x < tree_size (tree_of es)) (sym is) falls)

pub leg_of : (ts legs : List Source) (i : ℕ) (t : Source) → ts ≡ legs → i < length ts → t ≡ get_or ts i t → tree_size t < list_size legs
leg_of ts legs i t same h is =
    let falls : tree_size (get_or ts i t) < list_size ts = leg_falls ts i t h in
    subst (λ x. tree_size t < list_size x) same (subst (λ x. tree_size x < list_size ts) (sym is) falls)
