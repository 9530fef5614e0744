use Rattle.std.proofs.Common.{◌≡◌, ◌-◌, length}
use Rattle.lgx_rung.specs.Tokens.{read_tokens, read_rung}
use Rattle.lgx_rung.proofs.Reading.{IsFit}
use Rattle.lgx_neutral.specs.Lexing.{left}
use Rattle.lgx_neutral.specs.Reading.{reading, IsHeld}
use Rattle.lgx_neutral.proofs.read.read_rung.Given as goal

abbrev pub invariant-loop-next : goal.invariant-loop-next
invariant-loop-next l = record {
  reads : read_tokens (length l.text) (left l.lexer) (reading l.reader) ≡ read_rung l.text;
  fit : IsFit (reading l.reader);
  held : IsHeld l.reader.place l.reader.texts;
}

abbrev pub decreases-loop-next : goal.decreases-loop-next
decreases-loop-next l = length l.lexer.text.now - l.lexer.at
