use Rattle.std.proofs.Common.{◌≡◌, ◌++◌}
use Rattle.lgx_gen.specs.Draws.{state_after}
use Rattle.lgx_gen.specs.JournalText.{draws_before, rounds}
use Rattle.lgx_gen.proofs.journal.gen_journal.Given as goal

abbrev pub invariant-loop-number : goal.invariant-loop-number
invariant-loop-number l = record {
  text : l.text.items ≡ l.initial.text.items ++ rounds l.initial.draws l.number;
  draws : l.draws ≡ state_after (draws_before l.number) l.initial.draws;
}
