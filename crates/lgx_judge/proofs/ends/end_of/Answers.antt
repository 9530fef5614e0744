use Rattle.spec_machine.specs.Machine.{run}
use Rattle.lgx_judge.specs.declared.ends.End.{End}
use Rattle.lgx_judge.proofs.Reports.{end_is}
use Rattle.lgx_judge.proofs.ends.end_of.Goals as goal

pub returns : goal.returns
returns c = λ project events h steps.
    let end : End = record { tick = c.now.result; steps = c.args.steps; mode = c.mode.result } in
    end_is end project events (c.now.ensures (run project events) h.represents) steps (c.mode.ensures (run project events) h.represents)
