-- The rung that is read token by token, in the words of neutral text.
use Rattle.std.specs.Prelude.{◌≡◌, ◌<◌, ℕ, List, [], ◌∷◌, length}
use Rattle.lgx_rung.specs.declared.op.Op.{Op}
use Rattle.lgx_neutral.specs.declared.reader.Expected.{Expected}
use Rattle.lgx_neutral.specs.declared.reader.Expected.TheVariants.{Element, Named, First, After, Next, End}
use Rattle.lgx_neutral.specs.declared.reader.Reader.{Reader}
use Rattle.lgx_rung.specs.Tokens as text
use Rattle.lgx_rung.specs.Tree.{Source}

-- after operands, of which there is at least one
abbrev pub after : Op → List (List ℕ) → text.Expected
after op [] = text.First op
after op (first ∷ others) = text.After op first others

-- after a comma
abbrev pub next : Op → List (List ℕ) → text.Expected
next op [] = text.First op
next op (first ∷ others) = text.Next op first others

abbrev pub reading_at : Expected → List (List ℕ) → List text.Fork → Source → text.Reader
reading_at Element texts forks leg = text.At text.Element forks leg
reading_at (Named op) texts forks leg = text.At (text.Named op) forks leg
reading_at (First op) texts forks leg = text.At (text.First op) forks leg
reading_at (After op) texts forks leg = text.At (after op texts) forks leg
reading_at (Next op) texts forks leg = text.At (next op texts) forks leg
reading_at End texts forks leg = text.Done leg

abbrev pub reading : Reader → text.Reader
reading r = reading_at r.place r.texts r.forks r.leg

-- operands are held from the first on until their instruction is closed
abbrev pub IsHeld : Expected → List (List ℕ) → Type 0
IsHeld (After op) texts = 0 < length texts
IsHeld (Next op) texts = 0 < length texts
IsHeld _ texts = texts ≡ []
