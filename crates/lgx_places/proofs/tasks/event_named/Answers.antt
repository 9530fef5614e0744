use Rattle.std.proofs.Common.{◌&&◌, arith, sym, ◌∙◌}
use Rattle.lgx_num.specs.Name.{same}
use Rattle.spec_machine.specs.ValidProject.{is_event}
use Rattle.lgx_places.proofs.Steps.{found_at, found_nowhere}
use Rattle.lgx_places.proofs.tasks.event_named.Goals as goal

pub returns-then-is_event_named : goal.returns-then-is_event_named
returns-then-is_event_named c =
    rw (← c.as_slice-tasks.ensures)
    (found_at (λ t. same t.name c.args.name.now && is_event t.def.kind) c.as_slice-tasks.result.now c.loop-n.n c.index-tasks-n.result (omega arith) c.index-tasks-n.is (sym c.is_event_named.ensures ∙ c.if-is_event_named.true) c.loop-n.invariant)

pub returns : goal.returns
returns c =
    rw (← c.as_slice-tasks.ensures)
    (found_nowhere (λ t. same t.name c.args.name.now && is_event t.def.kind) c.as_slice-tasks.result.now c.loop-n.n (omega arith) c.loop-n.invariant)
