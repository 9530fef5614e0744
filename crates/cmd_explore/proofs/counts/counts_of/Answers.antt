use Rattle.std.proofs.Common.{◌≡◌, take, ap, ◌∙◌, arith}
use Rattle.std.proofs.lemmas.List.{take_all}
use Rattle.spec_machine.specs.Events.{is_step, is_tick}
use Rattle.spec_text.specs.JournalText.{joined}
use Rattle.cmd_explore.specs.Counts.{runs_count}
use Rattle.cmd_explore.proofs.Counting.{runs_tell}
use Rattle.cmd_explore.proofs.counts.counts_of.Goals as goal

pub returns-clause-steps : goal.returns-clause-steps
returns-clause-steps c =
    let runs = joined c.args.journal.now.events in
    let all : take c.loop-i.i runs ≡ runs = take_all c.loop-i.i runs (omega arith) in
    c.loop-i.invariant.steps ∙ ap (runs_count is_step) all ∙ runs_tell is_step c.args.journal.now.events

pub returns-clause-ticks : goal.returns-clause-ticks
returns-clause-ticks c =
    let runs = joined c.args.journal.now.events in
    let all : take c.loop-i.i runs ≡ runs = take_all c.loop-i.i runs (omega arith) in
    c.loop-i.invariant.ticks ∙ ap (runs_count is_tick) all ∙ runs_tell is_tick c.args.journal.now.events
