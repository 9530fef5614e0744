use Rattle.lgx_rung.specs.Tokens.{is_blank}
use Rattle.lgx_journal.proofs.Prefixes.{Passed}
use Rattle.lgx_journal.proofs.edits.blanks_before.Given as goal

abbrev pub invariant-loop-i : goal.invariant-loop-i
invariant-loop-i l = Passed is_blank l.text l.i
