-- Rungs with their operands checked and resolved: the same trees, or a fault: that of the earliest instruction that has
-- one, and of its faults the one with the lowest number.
use Rattle.std.specs.Prelude.{ℕ, suc, ◌+◌, Bool, true, false, not, ◌&&◌, ◌==◌, nat_le, if◌then◌else◌, List, [], ◌∷◌, ◌++◌, length, map, filter_map, flat_map, find, position, codes, bytes_eq, Option, Some, None, Result, Ok, Err, option_map, option_and_then}
use Rattle.std.specs.List.{enumerate_from}
use Rattle.std.specs.Result.{result_ok, result_err}
use Rattle.spec_base.specs.declared.limits.TheConstants.{MAX_ROUTINE_INSTRUCTIONS}
use Rattle.lgx_num.specs.Name.{is_name, same}
use Rattle.lgx_num.specs.declared.place.Operand.{Operand}
use Rattle.lgx_num.specs.declared.place.Operand.TheVariants as operand
use Rattle.lgx_rung.specs.Tree.{Tree, end, one, fork, Legs, last, leg, Source, SourceIns, instructions, leg_instructions}
use Rattle.lgx_rung.specs.declared.op.Op.{Op}
use Rattle.lgx_rung.specs.declared.op.Op.TheVariants.{Lbl, Sbr}
use Rattle.lgx_rung.specs.declared.fault.CheckCode.{CheckCode}
use Rattle.lgx_rung.specs.declared.fault.CheckCode.TheVariants.{C1, C2, C3, C4, C5, C6, C7, C8, C9, C10, C11, C12, C13, C14, C15, C16, C17}
use Rattle.lgx_rung.specs.declared.fault.CheckFault.{CheckFault}
use Rattle.spec_base.specs.FirstCause.{◌>>=◌, where_true}
use Rattle.spec_language.specs.Declarations.{Declarations}
use Rattle.lgx_rung.specs.declared.operands.OperandKind.{OperandKind}
use Rattle.lgx_rung.specs.declared.operands.OperandKind.TheVariants.{RoutineName, ParameterCount, JumpLabel, OwnLabel, EventTask, QuestionMark}
use Rattle.spec_language.specs.Operands.{paired, data_operand, name_operand, count_operand}
use Rattle.lgx_rung.specs.declared.ins.Ins.{Ins}
use Rattle.spec_language.specs.declared.tag.Scope.TheVariants.{Program}
use Rattle.spec_language.specs.declared.names.TaskName.{TaskName}

-- what operands are checked against: the tags, the number of the program, and the names of its routines and of the tasks
pub record CheckScope : Type 0 where
  pub tags : Declarations
  pub program : ℕ
  pub routines : List (List ℕ)
  pub tasks : List TaskName

-- where an instruction is: its rung, its number in the rung, how many instructions of the routine come before it, and whether it is
-- its rung's first element
pub record Spot : Type 0 where
  pub rung : ℕ
  pub ins : ℕ
  pub before : ℕ
  pub leads : Bool

-- ---- labels

pub record Label : Type 0 where
  pub name : List ℕ
  pub rung : ℕ
  pub ins : ℕ

abbrev pub is_label : Op → Bool
is_label Lbl = true
is_label _ = false

-- the name that an LBL gives: that of its one operand
abbrev pub label_name : Op → List (List ℕ) → Option (List ℕ)
label_name op (text ∷ []) = if is_label op && is_name text then Some text else None
label_name op _ = None

abbrev pub label_at : ℕ → ℕ × SourceIns → Option Label
label_at rung e = option_map (λ name. record { name = name; rung = rung; ins = e.0 }) (label_name e.1.op e.1.texts)

-- the labels of a routine: each LBL whose single operand is a name counts, in every rung and leg
abbrev pub labels : List Source → List Label
labels rungs = flat_map (λ e. filter_map (label_at e.0) (enumerate_from 0 (instructions e.1))) (enumerate_from 0 rungs)

-- the first label of a name, in any case
abbrev pub label_of : List Label → List ℕ → Option Label
label_of ls name = find (λ l. same l.name name) ls

abbrev pub stands_elsewhere : Spot → Option Label → Bool
stands_elsewhere spot None = false
stands_elsewhere spot (Some l) = not (l.rung == spot.rung && l.ins == spot.ins)

-- ---- operands

-- an operand's text where something is wanted: what it stands for, or why it stands for nothing
abbrev pub operand_of : CheckScope → List Label → Spot → OperandKind × List ℕ → Result Operand CheckCode
operand_of s ls spot (RoutineName, text) = name_operand text (option_map operand.Routine (position (λ name. same name text) s.routines)) C11
operand_of s ls spot (ParameterCount, text) = count_operand text
operand_of s ls spot (JumpLabel, text) = name_operand text (option_map (λ l. operand.Label l.rung) (label_of ls text)) C12
operand_of s ls spot (OwnLabel, text) = name_operand text (Some (operand.Label spot.rung)) C2
operand_of s ls spot (EventTask, text) = name_operand text (option_map operand.Task (position (λ t. t.event && same t.name text) s.tasks)) C15
operand_of s ls spot (QuestionMark, text) = if bytes_eq text (codes "?") then Ok operand.Blank else data_operand s.tags (Program s.program) QuestionMark text
operand_of s ls spot (w, text) = data_operand s.tags (Program s.program) w text

-- ---- one instruction

-- C13 an LBL repeats a label, C14 an LBL isn't the first element of its rung
abbrev pub label_faults : List Label → Spot → SourceIns → List CheckCode
label_faults ls spot i = where_true (stands_elsewhere spot (option_and_then (label_of ls) (label_name i.op i.texts))) C13 ++ where_true (is_label i.op && not spot.leads) C14

-- C16: it is the routine's first instruction beyond the limit
abbrev pub length_faults : Spot → List CheckCode
length_faults spot = where_true (spot.before == MAX_ROUTINE_INSTRUCTIONS) C16

abbrev pub is_entry : Op → Bool
is_entry Sbr = true
is_entry _ = false

-- C17: an SBR isn't the first element of its routine's first rung
abbrev pub entry_faults : Spot → Op → List CheckCode
entry_faults spot op = where_true (is_entry op && not (spot.rung == 0 && spot.leads)) C17

-- what is wrong with an instruction beside its operands
abbrev pub other_faults : List Label → Spot → SourceIns → List CheckCode
other_faults ls spot i = label_faults ls spot i ++ length_faults spot ++ entry_faults spot i.op

-- C1: the number of operands isn't the mnemonic's
abbrev pub operands_of : CheckScope → List Label → Spot → Option (List (OperandKind × List ℕ)) → List (Result Operand CheckCode)
operands_of s ls spot None = Err C1 ∷ []
operands_of s ls spot (Some pairs) = map (operand_of s ls spot) pairs

abbrev pub code_number : CheckCode → ℕ
code_number C1 = 1
code_number C2 = 2
code_number C3 = 3
code_number C4 = 4
code_number C5 = 5
code_number C6 = 6
code_number C7 = 7
code_number C8 = 8
code_number C9 = 9
code_number C10 = 10
code_number C11 = 11
code_number C12 = 12
code_number C13 = 13
code_number C14 = 14
code_number C15 = 15
code_number C16 = 16
code_number C17 = 17

abbrev pub lesser : CheckCode → Option CheckCode → Option CheckCode
lesser c None = Some c
lesser c (Some d) = if nat_le (code_number c) (code_number d) then Some c else Some d

-- the least of the codes
abbrev pub least : List CheckCode → Option CheckCode
least [] = None
least (c ∷ cs) = lesser c (least cs)

abbrev pub answered : Spot → Op → List Operand → Option CheckCode → Result Ins CheckFault
answered spot op args None = Ok (record { op = op; args = args })
answered spot op args (Some code) = Err (record { code = code; rung = spot.rung; ins = spot.ins })

abbrev pub settled : List Label → Spot → SourceIns → List (Result Operand CheckCode) → Result Ins CheckFault
settled ls spot i operands =
    answered spot i.op (filter_map result_ok operands) (least (filter_map result_err operands ++ other_faults ls spot i))

abbrev pub instruction_of : CheckScope → List Label → Spot → SourceIns → Result Ins CheckFault
instruction_of s ls spot i = settled ls spot i (operands_of s ls spot (paired i.op i.texts))

-- ---- rungs

-- the spot after n more instructions
abbrev pub spot_after : ℕ → Spot → Spot
spot_after n spot = record { rung = spot.rung; ins = spot.ins + n; before = spot.before + n; leads = false }

abbrev mutual
  pub checked_tree : (Spot → SourceIns → Result Ins CheckFault) → Spot → Tree SourceIns → Result (Tree Ins) CheckFault
  checked_tree check spot end = Ok end
  checked_tree check spot (one i rest) =
      check spot i >>= λ i'.
      checked_tree check (spot_after 1 spot) rest >>= λ rest'.
      Ok (one i' rest')
  checked_tree check spot (fork t legs rest) =
      checked_tree check (spot_after 0 spot) t >>= λ t'.
      checked_legs check (spot_after (length (instructions t)) spot) legs >>= λ legs'.
      checked_tree check (spot_after (length (instructions t) + length (leg_instructions legs)) spot) rest >>= λ rest'.
      Ok (fork t' legs' rest')

  pub checked_legs : (Spot → SourceIns → Result Ins CheckFault) → Spot → Legs SourceIns → Result (Legs Ins) CheckFault
  checked_legs check spot last = Ok last
  checked_legs check spot (leg t legs) =
      checked_tree check spot t >>= λ t'.
      checked_legs check (spot_after (length (instructions t)) spot) legs >>= λ legs'.
      Ok (leg t' legs')

-- the rungs from this one on, after `before` instructions
abbrev pub checked_from : (Spot → SourceIns → Result Ins CheckFault) → ℕ → ℕ → List Source → Result (List (Tree Ins)) CheckFault
checked_from check rung before [] = Ok []
checked_from check rung before (r ∷ rs) =
    checked_tree check (record { rung = rung; ins = 0; before = before; leads = true }) r >>= λ r'.
    checked_from check (suc rung) (before + length (instructions r)) rs >>= λ rs'.
    Ok (r' ∷ rs')

abbrev pub checked : CheckScope → List Source → Result (List (Tree Ins)) CheckFault
checked scope rungs = checked_from (instruction_of scope (labels rungs)) 0 0 rungs
