use Rattle.std.proofs.Common.{◌≡◌, ◌∙◌, refl}
use Rattle.lgx_types.specs.Sizing.{types_at}
use Rattle.lgx_types.proofs.MemberSizes.{few_at, typed_at}
use Rattle.lgx_types.proofs.resolved.Resolved.types_at.Goals as goal

pub returns : goal.returns
returns c =
    let v : c.as_slice.result.now ≡ types_at c.self.inside.structures c.args.i = c.as_slice.ensures ∙ c.index.ensures ∙ typed_at c.self.inside.structures c.self.inside.outlines.items c.args.i c.index.result.now c.self.invariant.typed (rw c.self.view_is c.requires) in
    record { value = rw (v, ← c.self.view_is) refl; few = rw v (few_at c.self.inside.structures c.args.i c.self.invariant.full) }
