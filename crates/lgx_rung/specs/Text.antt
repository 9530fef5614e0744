-- Neutral text: the texts that spell a rung, its canonical spelling, and the first fault of a text that spells none.
use Rattle.std.specs.Prelude.{◌≡◌, ◌≢◌, ℕ, ◌+◌, ◌-◌, ◌≤◌, ◌<◌, ◌⊎◌, Bool, IsTrue, false, List, [], ◌∷◌, ◌++◌, length, map, codes, Some, None}
use Rattle.spec_base.specs.declared.limits.TheConstants.{MAX_FORKS}
use Rattle.lgx_num.specs.Name.{is_letter}
use Rattle.std.specs.List.{list_all}
use Rattle.lgx_rung.specs.declared.op.Op.{Op}
use Rattle.lgx_rung.specs.declared.op.Op.TheVariants.{Nop}
use Rattle.lgx_rung.specs.declared.fault.TextFault.{TextFault}
use Rattle.lgx_rung.specs.declared.fault.TextCode.{TextCode}
use Rattle.lgx_rung.specs.declared.fault.TextCode.TheVariants.{T1, T2, T3, T4, T5}
use Rattle.lgx_rung.specs.Mnemonics.{text_of, op_of}
use Rattle.lgx_rung.specs.Tree.{end, one, fork, Legs, last, leg, depth, instructions, SourceIns, Source}
use Rattle.lgx_rung.specs.Tokens.{is_blank, is_operand, inside_after, Token, Mnemonic, Letters, Operand, OpenFork, CloseFork, OpenParen, CloseParen, Comma, Semicolon, Stray, Placed, tokens}

-- ---- the grammar
--   rung    = list ";"
--   list    = { element }
--   element = mnemonic "(" [ operand { "," operand } ] ")"
--           | "[" list { "," list } "]"

abbrev pub more_operands : List (List ℕ) → List Token
more_operands [] = []
more_operands (text ∷ texts) = Comma ∷ Operand text ∷ more_operands texts

abbrev pub operands : List (List ℕ) → List Token
operands [] = []
operands (text ∷ texts) = Operand text ∷ more_operands texts

abbrev mutual
  pub list_tokens : Source → List Token
  list_tokens end = []
  list_tokens (one i rest) = Mnemonic i.op ∷ OpenParen ∷ (operands i.texts ++ CloseParen ∷ list_tokens rest)
  list_tokens (fork t legs rest) = OpenFork ∷ (list_tokens t ++ (leg_tokens legs ++ CloseFork ∷ list_tokens rest))

  pub leg_tokens : Legs SourceIns → List Token
  leg_tokens last = []
  leg_tokens (leg t legs) = Comma ∷ (list_tokens t ++ leg_tokens legs)

abbrev pub rung_tokens : Source → List Token
rung_tokens r = list_tokens r ++ Semicolon ∷ []

-- ---- spelling

-- the bytes that a token may have: a mnemonic is letters in upper or lower case
abbrev pub IsSpelling : Token → List ℕ → Type 0
IsSpelling (Mnemonic op) bytes = IsTrue (list_all is_letter bytes) × (op_of bytes ≡ Some op)
IsSpelling (Operand text) bytes = (bytes ≡ text) × IsTrue (is_operand text)
IsSpelling OpenFork bytes = bytes ≡ codes "["
IsSpelling CloseFork bytes = bytes ≡ codes "]"
IsSpelling OpenParen bytes = bytes ≡ codes "("
IsSpelling CloseParen bytes = bytes ≡ codes ")"
IsSpelling Comma bytes = bytes ≡ codes ","
IsSpelling Semicolon bytes = bytes ≡ codes ";"
IsSpelling Letters bytes = IsTrue (list_all is_letter bytes) × (op_of bytes ≡ None)
IsSpelling Stray bytes = length bytes ≡ 1

-- the text is these tokens in order, with blanks before, between and after them
abbrev pub IsWritten : List ℕ → List Token → Type 0
IsWritten text [] = IsTrue (list_all is_blank text)
IsWritten text (t ∷ ts) =
    (blanks : List ℕ) × (bytes : List ℕ) × (rest : List ℕ) × (
    (text ≡ blanks ++ (bytes ++ rest)) × IsTrue (list_all is_blank blanks) × IsSpelling t bytes × IsWritten rest ts)

-- no more forks are nested in one another than may be
abbrev pub IsNested : Source → Type 0
IsNested r = depth r ≤ MAX_FORKS

-- each operand is one operand byte or more
abbrev pub has_operands : Source → Bool
has_operands r = list_all (λ i. list_all is_operand i.texts) (instructions r)

-- a rung that has a text
pub record IsSourceRung (r : Source) : Type 0 where
  pub nested : IsNested r
  pub operands : IsTrue (has_operands r)

-- the text spells the rung: it is written of the rung's tokens
abbrev pub Spells : List ℕ → Source → Type 0
Spells text r = IsNested r × IsWritten text (rung_tokens r)

-- ---- the canonical spelling: no blanks, mnemonics in upper case, operands as they are

abbrev pub canon_token : Token → List ℕ
canon_token (Mnemonic op) = text_of op
canon_token (Operand text) = text
canon_token OpenFork = codes "["
canon_token CloseFork = codes "]"
canon_token OpenParen = codes "("
canon_token CloseParen = codes ")"
canon_token Comma = codes ","
canon_token Semicolon = codes ";"
canon_token Letters = []
canon_token Stray = []

abbrev pub canon_tokens : List Token → List ℕ
canon_tokens [] = []
canon_tokens (t ∷ ts) = canon_token t ++ canon_tokens ts

abbrev pub canon : Source → List ℕ
canon r = canon_tokens (rung_tokens r)

-- ---- the first fault

-- the tokens begin some rung
abbrev pub Begins : List Token → Type 0
Begins ts = (r : Source) × (more : List Token) × (IsNested r × (rung_tokens r ≡ ts ++ more))

-- they begin some rung that goes on after them
abbrev pub IsCutShort : List Token → Type 0
IsCutShort ts = (r : Source) × (t : Token) × (more : List Token) × (IsNested r × (rung_tokens r ≡ ts ++ t ∷ more))

abbrev pub MayFollow : List Token → Token → Type 0
MayFollow before t = Begins (before ++ t ∷ [])

-- an instruction may follow these tokens
abbrev pub InElementPlace : List Token → Type 0
InElementPlace before = MayFollow before (Mnemonic Nop)

-- the forks that are open after these tokens, if n are open before them
abbrev pub open_forks : ℕ → List Token → ℕ
open_forks n [] = n
open_forks n (OpenFork ∷ ts) = open_forks (n + 1) ts
open_forks n (CloseFork ∷ ts) = open_forks (n - 1) ts
open_forks n (_ ∷ ts) = open_forks n ts

-- whether what follows these tokens is in parentheses
abbrev pub in_parentheses : (inside : Bool) → List Token → Bool
in_parentheses inside [] = inside
in_parentheses inside (t ∷ ts) = in_parentheses (inside_after inside t) ts

abbrev pub EndsByMnemonic : List Token → Type 0
EndsByMnemonic ts = (before : List Token) × (op : Op) × (ts ≡ before ++ Mnemonic op ∷ [])

-- a fork or a parenthesis is open, or a mnemonic comes last
abbrev pub IsOpen : List Token → Type 0
IsOpen ts = (0 < open_forks 0 ts) ⊎ (IsTrue (in_parentheses false ts) ⊎ EndsByMnemonic ts)

-- tokens without their places
abbrev pub unplaced : List Placed → List Token
unplaced ts = map (λ t. t.token) ts

-- what is wrong with a token that may not follow those before it
abbrev pub IsWrong : TextCode → List Token → Token → Type 0
-- in an element's place: letters that are no mnemonic
IsWrong T2 before t = InElementPlace before × (t ≡ Letters)
-- in an element's place: one fork more than may be open
IsWrong T5 before t = InElementPlace before × (t ≡ OpenFork) × (open_forks 0 before ≡ MAX_FORKS)
-- any other
IsWrong T1 before t = InElementPlace before → (t ≢ Letters) × (t ≢ OpenFork)
IsWrong T3 before t = ⊥
IsWrong T4 before t = ⊥

-- the longest run of the text's tokens that begins some rung ends before the token at this place
pub record StopsAt (text : List ℕ) (code : TextCode) (at : ℕ) : Type 0 where
  pub before : List Placed
  pub next : Placed
  pub after : List Placed
  pub is_text : tokens text ≡ before ++ next ∷ after
  pub begins : Begins (unplaced before)
  pub ends : MayFollow (unplaced before) next.token → ⊥
  pub is_wrong : IsWrong code (unplaced before) next.token
  pub is_there : at ≡ next.at

abbrev pub IsCause : TextCode → ℕ → List ℕ → Type 0
IsCause T1 at text = StopsAt text T1 at
IsCause T2 at text = StopsAt text T2 at
IsCause T5 at text = StopsAt text T5 at
-- the text ends while something is open
IsCause T3 at text = (at ≡ length text) × IsCutShort (unplaced (tokens text)) × IsOpen (unplaced (tokens text))
-- the text ends elsewhere
IsCause T4 at text = (at ≡ length text) × IsCutShort (unplaced (tokens text)) × (IsOpen (unplaced (tokens text)) → ⊥)

-- the first fault of a text
abbrev pub IsTextCause : List ℕ → TextFault → Type 0
IsTextCause text f = IsCause f.code f.at text
