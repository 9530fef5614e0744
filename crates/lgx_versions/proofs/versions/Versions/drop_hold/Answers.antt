-- What is used was used before, and nothing else but the held program.
use Rattle.std.proofs.Common.{refl}
use Rattle.lgx_versions.proofs.Freed.{fewer-slots, fewer-stays, without_held, without_held-fewer}
use Rattle.lgx_versions.proofs.Held.{held-within, others-used}
use Rattle.lgx_versions.proofs.versions.Versions.drop_hold.Goals as goal

pub free_if_unused-requires : goal.free_if_unused-requires
free_if_unused-requires c = record {
  within = held-within c.self.inside c.self.invariant;
  others = others-used c.self.inside (without_held c.self.inside.places) c.self.invariant refl refl;
}

pub invariant_of-self : goal.invariant_of-self
invariant_of-self c =
    let places = c.self.inside.places in
    fewer-slots c.self.inside (without_held places) c.free_if_unused.new.slots c.self.invariant
    (without_held-fewer places) c.self.invariant.tested c.free_if_unused.ensures.freed c.free_if_unused.ensures.count

pub returns-clause-slots : goal.returns-clause-slots
returns-clause-slots c =
    fewer-stays c.self.inside (without_held c.self.inside.places) c.free_if_unused.new.slots c.args.self.now
    c.self.invariant c.self.view_is c.free_if_unused.ensures.freed
