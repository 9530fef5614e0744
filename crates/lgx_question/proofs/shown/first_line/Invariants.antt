-- None of the lines before holds.
use Rattle.std.proofs.Common.{◌≡◌, drop}
use Rattle.std.specs.List.{position_from}
use Rattle.lgx_question.specs.Seen.{holds_in}
use Rattle.lgx_question.proofs.shown.first_line.Given as goal

abbrev pub invariant-loop-n : goal.invariant-loop-n
invariant-loop-n l = position_from (holds_in l.values l.ended) l.n (drop l.n l.lines) ≡ position_from (holds_in l.values l.ended) 0 l.lines
