-- What lies in the slots tells it.
use Rattle.std.proofs.Common.{subst}
use Rattle.lgx_versions.specs.View.{VersionsView, AreSlotsOf}
use Rattle.lgx_versions.proofs.Filled.{are_slots_of}
use Rattle.lgx_versions.proofs.versions.Versions.slot.Goals as goal

pub returns-clause-slots : goal.returns-clause-slots
returns-clause-slots c =
    subst (λ (v : VersionsView). AreSlotsOf v.roles v.slots) c.self.view_is (are_slots_of c.self.inside c.self.invariant)
