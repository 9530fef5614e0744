-- There are few steps, since there are few events.
use Rattle.std.proofs.Common.{ap, length, List, arith}
use Rattle.spec_machine.specs.declared.event.Event.{Event}
use Rattle.lgx_walker.proofs.Trailed.{number_of_step, room_for_step}
use Rattle.lgx_walker.proofs.witness.add_steps.Goals as goal

pub overflow_add-done : goal.overflow_add-done
overflow_add-done c =
    let a = number_of_step c.args.script.now c.args.journal.now.events c.loop-k.k c.args.count c.loop-k-test.true c.requires.few in
    let b = c.requires.done in
    omega arith

pub overflow_add-done-in-loop-k : goal.overflow_add-done-in-loop-k
overflow_add-done-in-loop-k c =
    let a = number_of_step c.args.script.now c.args.journal.now.events c.loop-k.k c.args.count c.loop-k-test.true c.requires.few in
    let b = c.requires.done in
    omega arith

pub add_step-requires : goal.add_step-requires
add_step-requires c =
    let a = room_for_step c.args.script.now c.args.journal.now.events c.loop-k.k c.args.count c.loop-k-test.true c.requires.few in
    let b = ap (λ (es : List Event). length es) c.loop-k.invariant in
    omega arith
