-- The tokens of a rung's text, and a reading of the list of tokens: the rung, or the first fault.
use Rattle.std.specs.Prelude.{ℕ, ◌+◌, ◌-◌, Bool, true, false, ◌||◌, ◌==◌, nat_le, nat_lt, ◌&&◌, if◌then◌else◌, List, [], ◌∷◌, ◌++◌, length, reverse, Option, Some, None, Result, Ok, Err}
use Rattle.std.specs.List.{list_all}
use Rattle.spec_base.specs.declared.limits.TheConstants.{MAX_FORKS}
use Rattle.lgx_num.specs.Name.{is_letter}
use Rattle.lgx_rung.specs.declared.op.Op.{Op}
use Rattle.lgx_rung.specs.declared.fault.TextFault.{TextFault}
use Rattle.lgx_rung.specs.declared.fault.TextCode.{TextCode}
use Rattle.lgx_rung.specs.declared.fault.TextCode.TheVariants.{T1, T2, T3, T4, T5}
use Rattle.lgx_rung.specs.Mnemonics.{op_of}
use Rattle.lgx_rung.specs.Tree.{end, one, append, fork_of, Source}

-- space, tab, CR and LF
abbrev pub is_blank : ℕ → Bool
is_blank b = b == 32 || b == 9 || b == 13 || b == 10

-- letters, digits and : _ . # - ? [ ]
abbrev pub is_operand_byte : ℕ → Bool
is_operand_byte b = is_letter b || (nat_le 48 b && nat_le b 58) || b == 95 || b == 46 || b == 35 || b == 45 || b == 63 || b == 91 || b == 93

-- one such byte or more
abbrev pub is_operand : List ℕ → Bool
is_operand [] = false
is_operand (b ∷ bs) = list_all is_operand_byte (b ∷ bs)

pub data Token : Type 0 where
  Mnemonic : Op → Token
  -- letters that are no mnemonic
  Letters : Token
  Operand : List ℕ → Token
  OpenFork : Token
  CloseFork : Token
  OpenParen : Token
  CloseParen : Token
  Comma : Token
  Semicolon : Token
  -- a byte that is none of these
  Stray : Token

-- a token with the place of its first byte
pub record Placed : Type 0 where
  pub at : ℕ
  pub token : Token

-- ---- the tokens of a text: inside parentheses runs of operand bytes, outside runs of letters, and single bytes

abbrev pub in_run : (inside : Bool) → ℕ → Bool
in_run true b = is_operand_byte b
in_run false b = is_letter b

abbrev pub word : Option Op → Token
word None = Letters
word (Some op) = Mnemonic op

abbrev pub run_token : (inside : Bool) → List ℕ → Token
run_token true run = Operand run
run_token false run = word (op_of run)

abbrev pub mark : ℕ → Token
mark b =
    if b == 91 then OpenFork else (if b == 93 then CloseFork else (if b == 40 then OpenParen else (
    if b == 41 then CloseParen else (if b == 44 then Comma else (if b == 59 then Semicolon else Stray)))))

abbrev pub inside_after : (inside : Bool) → Token → Bool
inside_after inside OpenParen = true
inside_after inside CloseParen = false
inside_after inside _ = inside

-- what the bytes still to come give, from a place on, after the bytes of an unfinished run (the last first)
abbrev pub Rest : Type 0
Rest = (inside : Bool) → (at : ℕ) → (run : List ℕ) → List Placed

-- the run that ends before a place, and the tokens after it
abbrev pub end_run : (inside : Bool) → (at : ℕ) → (run : List ℕ) → List Placed → List Placed
end_run inside at [] more = more
end_run inside at (b ∷ bs) more = record { at = at - length (b ∷ bs); token = run_token inside (reverse (b ∷ bs)) } ∷ more

abbrev pub put_mark : (inside : Bool) → (at : ℕ) → Token → Rest → List Placed
put_mark inside at t rest = record { at = at; token = t } ∷ rest (inside_after inside t) (at + 1) []

abbrev pub put_byte : (is_in_run : Bool) → (is_blank : Bool) → ℕ → Rest → Rest
put_byte true blank b rest inside at run = rest inside (at + 1) (b ∷ run)
put_byte false true b rest inside at run = end_run inside at run (rest inside (at + 1) [])
put_byte false false b rest inside at run = end_run inside at run (put_mark inside at (mark b) rest)

abbrev pub tokens_from : List ℕ → Rest
tokens_from [] inside at run = end_run inside at run []
tokens_from (b ∷ bs) inside at run = put_byte (in_run inside b) (is_blank b) b (tokens_from bs) inside at run

abbrev pub tokens : List ℕ → List Placed
tokens text = tokens_from text false 0 []

-- ---- the reading

-- what may come next
pub data Expected : Type 0 where
  -- an element, or the end of the leg or of the rung
  Element : Expected
  -- the parenthesis after a mnemonic
  Named : Op → Expected
  -- the first operand, or the closing parenthesis
  First : Op → Expected
  -- a comma or the closing parenthesis, after the first operand and others
  After : Op → (first : List ℕ) → (others : List (List ℕ)) → Expected
  -- the operand after a comma
  Next : Op → (first : List ℕ) → (others : List (List ℕ)) → Expected

-- a fork that is open: the leg before it, and its finished legs
pub record Fork : Type 0 where
  pub before : Source
  pub legs : List Source

pub data Reader : Type 0 where
  -- in a rung: the open forks, the innermost first, and the leg as far as it is read
  At : Expected → List Fork → (leg : Source) → Reader
  -- after the semicolon
  Done : Source → Reader

abbrev pub add_element : List Fork → (leg : Source) → Source → Reader
add_element forks leg element = At Element forks (append leg element)

abbrev pub instruction : Op → List (List ℕ) → Source
instruction op texts = one (record { op = op; texts = texts }) end

abbrev pub open_fork : (has_room : Bool) → List Fork → (leg : Source) → Result Reader TextCode
open_fork true forks leg = Ok (At Element (record { before = leg; legs = [] } ∷ forks) end)
open_fork false forks leg = Err T5

abbrev pub next_leg : List Fork → (leg : Source) → Result Reader TextCode
next_leg [] leg = Err T1
next_leg (f ∷ forks) leg = Ok (At Element (record { before = f.before; legs = f.legs ++ leg ∷ [] } ∷ forks) end)

abbrev pub close_fork : List Fork → (leg : Source) → Result Reader TextCode
close_fork [] leg = Err T1
close_fork (f ∷ forks) leg = Ok (add_element forks f.before (fork_of (f.legs ++ leg ∷ []) end))

abbrev pub end_rung : List Fork → (leg : Source) → Result Reader TextCode
end_rung [] leg = Ok (Done leg)
end_rung (f ∷ forks) leg = Err T1

-- a token in an element's place
abbrev pub read_element : Token → List Fork → (leg : Source) → Result Reader TextCode
read_element (Mnemonic op) forks leg = Ok (At (Named op) forks leg)
read_element Letters forks leg = Err T2
read_element OpenFork forks leg = open_fork (nat_lt (length forks) MAX_FORKS) forks leg
read_element CloseFork forks leg = close_fork forks leg
read_element Comma forks leg = next_leg forks leg
read_element Semicolon forks leg = end_rung forks leg
read_element _ forks leg = Err T1

abbrev pub read_at : Expected → Token → List Fork → (leg : Source) → Result Reader TextCode
read_at Element t forks leg = read_element t forks leg
read_at (Named op) OpenParen forks leg = Ok (At (First op) forks leg)
read_at (First op) (Operand text) forks leg = Ok (At (After op text []) forks leg)
read_at (First op) CloseParen forks leg = Ok (add_element forks leg (instruction op []))
read_at (After op first others) Comma forks leg = Ok (At (Next op first others) forks leg)
read_at (After op first others) CloseParen forks leg = Ok (add_element forks leg (instruction op (first ∷ others)))
read_at (Next op first others) (Operand text) forks leg = Ok (At (After op first (others ++ text ∷ [])) forks leg)
read_at _ _ forks leg = Err T1

abbrev pub read_token : Reader → Token → Result Reader TextCode
read_token (At place forks leg) t = read_at place t forks leg
read_token (Done rung) t = Err T1

-- the answer when the text ends, by its length
abbrev pub read_end : (len : ℕ) → Reader → Result Source TextFault
read_end len (Done rung) = Ok rung
read_end len (At Element [] leg) = Err (record { code = T4; at = len })
read_end len (At place forks leg) = Err (record { code = T3; at = len })

abbrev pub read_on : Result Reader TextCode → (at : ℕ) → (Reader → Result Source TextFault) → Result Source TextFault
read_on (Ok r) at rest = rest r
read_on (Err code) at rest = Err (record { code = code; at = at })

abbrev pub read_tokens : (len : ℕ) → List Placed → Reader → Result Source TextFault
read_tokens len [] r = read_end len r
read_tokens len (t ∷ ts) r = read_on (read_token r t.token) t.at (read_tokens len ts)

abbrev pub read_rung : List ℕ → Result Source TextFault
read_rung text = read_tokens (length text) (tokens text) (At Element [] end)

-- ---- words for examples

abbrev pub faulty : TextCode → ℕ → Result Source TextFault
faulty code at = Err (record { code = code; at = at })

abbrev pub ins : Op → List (List ℕ) → Source → Source
ins op texts rest = one (record { op = op; texts = texts }) rest
