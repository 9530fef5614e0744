use Rattle.std.proofs.Common.{arith, ◌≤◌, ◌*◌}
use Rattle.spec_base.specs.declared.limits.TheConstants.{MAX_ELEMENTS, MAX_STRUCTURE_BYTES}
use Rattle.spec_language.specs.Layout.{size_in}
use Rattle.lgx_types.proofs.Placed.{size_fits}
use Rattle.lgx_types.proofs.table.TypeTable.size_of.Goals as goal

pub size_in-requires : goal.size_in-requires
size_in-requires c =
    let fits : size_in c.self.inside.parts.value.sizes.items c.args.of ≤ MAX_STRUCTURE_BYTES * MAX_ELEMENTS = size_fits c.self.inside.parts.value.resolved c.self.inside.parts.value.sizes.items c.self.inside.parts.value.places.items c.args.of c.self.invariant (rw c.self.view_is c.requires) in
    rw (c.deref-2.ensures.value, c.deref.ensures) (omega (arith, fits))
