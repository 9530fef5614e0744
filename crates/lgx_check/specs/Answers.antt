-- What is answered: what is meant, or that there was no memory.
use Rattle.std.specs.Prelude.{◌≡◌, List, filter_map, Some, None, Result, Ok, Err, ⊤}
use Rattle.std.specs.Result.{result_ok, result_err}
use Rattle.lgx_num.specs.declared.place.Operand.{Operand}
use Rattle.lgx_rung.specs.declared.fault.CheckCode.{CheckCode}
use Rattle.lgx_rung.specs.declared.fault.CheckFault.{CheckFault}
use Rattle.spec_language.specs.Checked.{least}
use Rattle.lgx_check.specs.declared.error.CheckError.{CheckError}
use Rattle.lgx_check.specs.declared.error.CheckError.TheVariants.{Check, Memory}
use Rattle.lgx_check.specs.declared.error.OperandError.{OperandError}
use Rattle.lgx_check.specs.declared.error.OperandError.TheVariants.{Code, Memory as no_memory}

-- the value that is answered stands for what is meant, by what it is seen as
abbrev pub AnswersAs : {A B : Type 0} → (A → B) → Result B CheckFault → Result A CheckError → Type 0
AnswersAs seen meant (Ok x) = meant ≡ Ok (seen x)
AnswersAs seen meant (Err (Check fault)) = meant ≡ Err fault
AnswersAs seen meant (Err Memory) = ⊤

abbrev pub AnswersCheck : {A : Type 0} → Result A CheckFault → Result A CheckError → Type 0
AnswersCheck meant answer = AnswersAs (λ x. x) meant answer

-- the operands of an instruction, as they are meant one by one, or the least code of those that stand for nothing
abbrev pub AnswersArgs : List (Result Operand CheckCode) → Result (List Operand) OperandError → Type 0
AnswersArgs meant (Ok args) = (args ≡ filter_map result_ok meant) × (least (filter_map result_err meant) ≡ None)
AnswersArgs meant (Err (Code code)) = least (filter_map result_err meant) ≡ Some code
AnswersArgs meant (Err no_memory) = ⊤

-- the same of an operand
abbrev pub AnswersOperand : Result Operand CheckCode → Result Operand OperandError → Type 0
AnswersOperand meant (Ok o) = meant ≡ Ok o
AnswersOperand meant (Err (Code code)) = meant ≡ Err code
AnswersOperand meant (Err no_memory) = ⊤
