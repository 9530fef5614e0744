-- The tokens that the reader of texts sees, in the words of neutral text.
use Rattle.std.specs.Prelude.{List, [], drop, IsTrue}
use Rattle.lgx_neutral.specs.declared.lexer.Token.{Token}
use Rattle.lgx_neutral.specs.declared.lexer.Token.TheVariants.{Mnemonic, Letters, Operand, OpenFork, CloseFork, OpenParen, CloseParen, Comma, Semicolon, Stray}
use Rattle.lgx_neutral.specs.declared.lexer.Placed.{Placed}
use Rattle.lgx_neutral.specs.declared.lexer.Lexer.{Lexer}
use Rattle.lgx_rung.specs.Tokens as text
use Rattle.lgx_rung.specs.Tokens.{is_operand, tokens_from}

abbrev pub token_of : Token → text.Token
token_of (Mnemonic op) = text.Mnemonic op
token_of Letters = text.Letters
token_of (Operand bytes) = text.Operand bytes.now
token_of OpenFork = text.OpenFork
token_of CloseFork = text.CloseFork
token_of OpenParen = text.OpenParen
token_of CloseParen = text.CloseParen
token_of Comma = text.Comma
token_of Semicolon = text.Semicolon
token_of Stray = text.Stray

abbrev pub placed : Placed → text.Placed
placed t = record { at = t.at; token = token_of t.token }

-- an operand has one operand byte or more
abbrev pub IsFitToken : Token → Type 0
IsFitToken (Operand bytes) = IsTrue (is_operand bytes.now)
IsFitToken _ = Unit {0}

-- the tokens from the lexer's place on
abbrev pub left : Lexer → List text.Placed
left l = tokens_from (drop l.at l.text.now) l.inside l.at []
