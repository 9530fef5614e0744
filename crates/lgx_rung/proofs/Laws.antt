-- Neutral text as a whole.
use Rattle.std.proofs.Common.{◌≡◌, ℕ, List, sym, subst, Ok}
use Rattle.lgx_rung.specs.Text.{Spells, IsSourceRung, IsWritten, canon}
use Rattle.lgx_rung.specs.Tokens.{read_rung}
use Rattle.lgx_rung.specs.Tree.{Source}
use Rattle.lgx_rung.proofs.Causes.{tokens_of_read, read_of_tokens}
use Rattle.lgx_rung.proofs.Lexing.{written_of_tokens, tokens_of_written, canon_written}

pub spells_read : (text : List ℕ) (r : Source) → read_rung text ≡ Ok r → Spells text r
spells_read text r e =
    let h = tokens_of_read text r e in
    (h.0, subst (IsWritten text) (sym h.1) (written_of_tokens text))

pub read_spelled : (text : List ℕ) (r : Source) → Spells text r → read_rung text ≡ Ok r
read_spelled text r s = read_of_tokens text r s.0 (sym (tokens_of_written text r s.1))

pub one_rung : (text : List ℕ) (r s : Source) → Spells text r → Spells text s → r ≡ s
one_rung text r s a b = let both : read_rung text ≡ Ok s = read_spelled text s b in let one : read_rung text ≡ Ok r = read_spelled text r a in cc

pub canon_spells : (r : Source) → IsSourceRung r → Spells (canon r) r
canon_spells r h = (h.nested, canon_written r h.operands)
