use Rattle.spec_text.specs.TextLines.{is_space}
use Rattle.lgx_journal.proofs.Prefixes.{Passed}
use Rattle.lgx_journal.proofs.words.spaces_before.Given as goal

abbrev pub invariant-loop-i : goal.invariant-loop-i
invariant-loop-i l = Passed is_space l.text l.i
