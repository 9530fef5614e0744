use Rattle.std.proofs.Common.{ℕ, ◌≡◌, ◌<◌, ◌∙◌, ◌++◌, [], List, ap, arith, drop, length, map, subst, take}
use Rattle.std.proofs.Math.Seq.{take-append_seam}
use Rattle.lgx_types.specs.declared.sizing.Visit.{Visit}
use Rattle.lgx_types.specs.Sizing.{IsSizing, IsVisited, size_of_visit}
use Rattle.lgx_types.proofs.SizingStack.{all_sized}
use Rattle.lgx_types.proofs.sizing.size_all.Goals as goal

pub returns : goal.returns
returns c =
    let visits : List Visit = c.size_each.new.visits in
    let rest : List Visit = drop (length visits) c.in_ok-visits.visits.items in
    let sizing : IsSizing c.args.resolved.now visits [] = rw c.in-None.is at c.in_ok-cycle.ensures.sizing in
    let visited : (i : ℕ) → i < length c.args.resolved.now → IsVisited visits i = rw c.in-None.is at c.in_ok-cycle.ensures.visited in
    let many : length visits ≡ c.in_ok-visits.visits.len = omega (arith, sizing.known.many, c.in_ok-visits.ensures.len, ap length c.decls.ensures.value) in
    let kept : take c.in_ok-visits.visits.len (visits ++ rest) ≡ visits = subst (λ (n : ℕ). take n (visits ++ rest) ≡ visits) many (take-append_seam visits rest) in
    all_sized c.args.resolved.now visits c.in_ok-sizes_of-in-None.field-0.items sizing visited (c.in_ok-sizes_of-in-None.ensures ∙ ap (map size_of_visit) (c.deref.ensures.value ∙ kept))
