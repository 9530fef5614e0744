-- What is used was used before.
use Rattle.std.proofs.lemmas.Bool.{false≢true}
use Rattle.lgx_versions.proofs.Freed.{fewer-slots, fewer-stays, without_merged, without_merged-fewer}
use Rattle.lgx_versions.proofs.versions.Versions.cancel.Goals as goal

pub invariant_of-self : goal.invariant_of-self
invariant_of-self c =
    let places = c.self.inside.places in
    fewer-slots c.self.inside (without_merged places) c.free_unused.new.slots c.self.invariant
    (without_merged-fewer places) (λ h. absurd (false≢true h)) c.free_unused.ensures.freed c.free_unused.ensures.count

pub returns-clause-slots : goal.returns-clause-slots
returns-clause-slots c =
    fewer-stays c.self.inside (without_merged c.self.inside.places) c.free_unused.new.slots c.args.self.now
    c.self.invariant c.self.view_is c.free_unused.ensures.freed
