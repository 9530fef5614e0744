-- What is used was used before: the base is the merged program now.
use Rattle.std.proofs.lemmas.Bool.{false≢true}
use Rattle.lgx_versions.proofs.Freed.{fewer-slots, fewer-stays, merged_place, with_base, with_base-fewer}
use Rattle.lgx_versions.proofs.versions.Versions.assemble.Goals as goal

pub invariant_of-self : goal.invariant_of-self
invariant_of-self c =
    let places = c.self.inside.places in
    let k = c.unwrap_or-merged.result in
    let merged = merged_place c.self.inside k c.args.self.now c.self.view_is c.requires c.unwrap_or-merged.ensures in
    fewer-slots c.self.inside (with_base places k) c.free_unused.new.slots c.self.invariant
    (λ i used. with_base-fewer places k i merged used) (λ h. absurd (false≢true h))
    c.free_unused.ensures.freed c.free_unused.ensures.count

pub returns-clause-slots : goal.returns-clause-slots
returns-clause-slots c =
    fewer-stays c.self.inside (with_base c.self.inside.places c.unwrap_or-merged.result) c.free_unused.new.slots c.args.self.now
    c.self.invariant c.self.view_is c.free_unused.ensures.freed
