use Rattle.std.proofs.Common.{◌≡◌, ◌≤◌, ◌*◌, take}
use Rattle.spec_machine.specs.Events.{is_step, is_tick}
use Rattle.spec_text.specs.JournalText.{joined}
use Rattle.cmd_explore.specs.Counts.{runs_count}
use Rattle.cmd_explore.proofs.counts.counts_of.Given as goal

abbrev pub invariant-loop-i : goal.invariant-loop-i
invariant-loop-i l = record {
  steps : l.steps ≡ runs_count is_step (take l.i (joined l.journal.events));
  ticks : l.ticks ≡ runs_count is_tick (take l.i (joined l.journal.events));
  few_steps : l.steps ≤ l.i * 4294967295;
  few_ticks : l.ticks ≤ l.i * 4294967295;
}
