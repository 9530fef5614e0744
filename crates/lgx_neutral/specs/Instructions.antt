-- Tokens of an instruction that are read as one: what a rung is read to is what it is with the instruction and the tokens after it.
use Rattle.std.specs.Prelude.{◌≡◌, ℕ, List, Result, Ok, Err, ⊤}
use Rattle.lgx_rung.specs.declared.fault.TextFault.{TextFault}
use Rattle.lgx_rung.specs.declared.op.Op.{Op}
use Rattle.lgx_rung.specs.Joined.{operands_in}
use Rattle.lgx_rung.specs.Tokens.{Placed, Fork, Reader, At, Named, First, add_element, instruction, read_tokens}
use Rattle.lgx_rung.specs.Tree.{Source}
use Rattle.lgx_neutral.specs.declared.fault.Refusal.{Refusal}
use Rattle.lgx_neutral.specs.declared.fault.Refusal.TheVariants.{Text, Memory}

-- after the parenthesis these tokens are the operands, the closing parenthesis, and the tokens that are left
abbrev pub ReadsOperands : List ℕ → List Placed → (left : List Placed) → Type 0
ReadsOperands operands ts left = (len : ℕ) (op : Op) (forks : List Fork) (leg : Source) →
    read_tokens len ts (At (First op) forks leg) ≡ read_tokens len left (add_element forks leg (instruction op (operands_in operands)))

-- the same after the mnemonic
abbrev pub ReadsInstruction : List ℕ → List Placed → (left : List Placed) → Type 0
ReadsInstruction operands ts left = (len : ℕ) (op : Op) (forks : List Fork) (leg : Source) →
    read_tokens len ts (At (Named op) forks leg) ≡ read_tokens len left (add_element forks leg (instruction op (operands_in operands)))

-- the reading of tokens goes on so: to the same as before from what is left, or it ends at this place
abbrev pub GoesOn : {A : Type 0} → Result Source TextFault → ℕ → (len : ℕ) → (left : List Placed) → Reader → Result A Refusal → Type 0
GoesOn said at len left r (Ok _) = read_tokens len left r ≡ said
GoesOn said at len left r (Err (Text code)) = said ≡ Err (record { code = code; at = at })
GoesOn said at len left r (Err Memory) = ⊤
