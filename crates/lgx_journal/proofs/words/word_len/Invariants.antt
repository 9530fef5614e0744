use Rattle.std.proofs.Common.{not}
use Rattle.spec_text.specs.TextLines.{is_space}
use Rattle.lgx_journal.proofs.Prefixes.{Passed}
use Rattle.lgx_journal.proofs.words.word_len.Given as goal

abbrev pub invariant-loop-i : goal.invariant-loop-i
invariant-loop-i l = Passed (λ c. not (is_space c)) l.text l.i
