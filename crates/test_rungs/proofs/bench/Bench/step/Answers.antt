use Rattle.std.proofs.Common.{◌∙◌}
use Rattle.spec_scan.specs.Scan.{advance}
use Rattle.test_rungs.proofs.bench.Bench.step.Goals as goal

pub invariant_of-self : goal.invariant_of-self
invariant_of-self c =
    let known = c.self.invariant in
    let step = c.advance.ensures.step known.0.0 known.0.1 known.0.2 in
    ((known.0.0, (advance known.0.0 known.0.1 c.self.inside.image.bytes c.args.scan.now c.args.scan.first c.self.inside.flags).position, step.runs), c.advance.ensures.only_marked.same_length ∙ known.1)
