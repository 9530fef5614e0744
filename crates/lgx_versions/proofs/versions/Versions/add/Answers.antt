-- The new version lies in a slot of neither the base nor the held program.
use Rattle.std.proofs.Common.{ap, ◌∙◌}
use Rattle.lgx_versions.specs.Roles.{add}
use Rattle.lgx_versions.specs.View.{VersionsView}
use Rattle.lgx_versions.proofs.Freed.{freed-slots, freed-roles}
use Rattle.lgx_versions.proofs.Added.{IsSpare, with_new, added-ready, added-roles, added-stays}
use Rattle.lgx_versions.proofs.versions.Versions.add.Goals as goal

pub invariant_of-self : goal.invariant_of-self
invariant_of-self c =
    let k = c.spare-slot.result in
    let spare : IsSpare c.self.inside.places k = record { slot = c.spare-slot.ensures.slot; base = c.spare-slot.ensures.base; held = c.spare-slot.ensures.held } in
    freed-slots (with_new c.self.inside k c.args.merged) c.free_unused.new.slots
    (added-ready c.self.inside k c.args.merged c.self.invariant spare) c.free_unused.ensures.freed c.free_unused.ensures.count

pub returns-clause-roles : goal.returns-clause-roles
returns-clause-roles c =
    let k = c.spare-slot.result in
    let spare : IsSpare c.self.inside.places k = record { slot = c.spare-slot.ensures.slot; base = c.spare-slot.ensures.base; held = c.spare-slot.ensures.held } in
    freed-roles (with_new c.self.inside k c.args.merged) c.free_unused.new.slots c.free_unused.ensures.freed
    ∙ (added-roles c.self.inside k c.args.merged c.self.invariant spare
    ∙ ap (λ (v : VersionsView). add c.args.merged v.roles) c.self.view_is)

pub returns-clause-slots : goal.returns-clause-slots
returns-clause-slots c =
    let k = c.spare-slot.result in
    let spare : IsSpare c.self.inside.places k = record { slot = c.spare-slot.ensures.slot; base = c.spare-slot.ensures.base; held = c.spare-slot.ensures.held } in
    added-stays c.self.inside k c.args.merged c.free_unused.new.slots c.args.self.now
    c.self.invariant spare c.self.view_is c.free_unused.ensures.freed
