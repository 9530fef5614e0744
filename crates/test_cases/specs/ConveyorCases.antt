-- The conveyor's layout, what its names stand for, and its rungs checked.
use Rattle.std.specs.Prelude.{◌≡◌, ℕ, ◌*◌, List, [], ◌∷◌, map, pos, codes, Some, None, Result, Ok}
use Rattle.lgx_num.specs.declared.number.Kind.TheVariants.{Bool as KBool, Dint as KDint}
use Rattle.lgx_num.specs.declared.place.Path.{Path}
use Rattle.lgx_num.specs.declared.place.Operand.{Operand}
use Rattle.lgx_num.specs.declared.place.Operand.TheVariants as operand
use Rattle.lgx_rung.specs.Tree.{fork, last, leg}
use Rattle.lgx_rung.specs.declared.op.Op.{Op}
use Rattle.lgx_rung.specs.declared.op.Op.TheVariants.{Xic, Xio, Ote, Ton, Ctu, Res, Sub, Mov, Add, Jsr}
use Rattle.lgx_rung.specs.declared.ins.Ins.{Ins}
use Rattle.spec_language.specs.declared.types.Base.TheVariants.{Bool as OneBit, Dint, Timer, Counter, User}
use Rattle.spec_language.specs.declared.types.DataType.{DataType}
use Rattle.spec_language.specs.declared.tag.Scope.TheVariants.{Controller, Program}
use Rattle.spec_language.specs.declared.tag.TagCode.{TagCode}
use Rattle.spec_language.specs.declared.tag.Found.{Found}
use Rattle.spec_language.specs.Layout.{find, size_of, member, single}
use Rattle.spec_language.specs.TypeFaults.{type_fault}
use Rattle.spec_language.specs.Declarations.{bytes}
use Rattle.spec_language.specs.Resolution.{found, seal_fault}
use Rattle.spec_language.specs.Checked.{checked}
use Rattle.test_cases.specs.ConveyorTags.{line, structures, conveyor, conveyor_scope, rungs}

-- ---- layout

abbrev pub ConveyorStructures : Type 0
ConveyorStructures = type_fault structures ≡ None

abbrev pub ConveyorSizes : Type 0
ConveyorSizes = map (λ b. size_of structures (single b)) (User 0 ∷ User 1 ∷ OneBit ∷ Timer ∷ Counter ∷ Dint ∷ []) ≡ 8 ∷ 4 ∷ 1 ∷ 16 ∷ 12 ∷ 4 ∷ []

abbrev pub ConveyorTypeNames : Type 0
ConveyorTypeNames = map (find structures) (codes "di" ∷ codes "DO" ∷ codes "Dint" ∷ codes "D" ∷ []) ≡ Some (User 0) ∷ Some (User 1) ∷ Some Dint ∷ None ∷ []

abbrev pub ConveyorMember : Type 0
ConveyorMember = member structures (User 0) (codes "data") ≡ Some (record { of = single Dint; at = 32 })

abbrev pub ConveyorBytes : Type 0
ConveyorBytes = bytes conveyor ≡ 56

abbrev pub ConveyorSealed : Type 0
ConveyorSealed = seal_fault conveyor ≡ None

-- ---- names

-- a bit, and a place of a type, of a tag that ends at a byte
abbrev pub bit_in : ℕ → ℕ → Result Found TagCode
bit_in n stop = Ok (record { at = n; steps = []; of = single OneBit; stop = stop })

abbrev pub place_in : DataType → ℕ → ℕ → Result Found TagCode
place_in of byte stop = Ok (record { at = 8 * byte; steps = []; of = of; stop = stop })

abbrev pub ConveyorBits : Type 0
ConveyorBits = map (found conveyor (Program 0)) (codes "StartPB" ∷ codes "stoppb" ∷ codes "Eye" ∷ codes "Motor" ∷ codes "Horn" ∷ codes "Run" ∷ codes "HornT.DN" ∷ codes "Parts.UN" ∷ codes "Local:1:I.Fault.31" ∷ [])
    ≡ bit_in 32 8 ∷ bit_in 33 8 ∷ bit_in 34 8 ∷ bit_in 64 12 ∷ bit_in 65 12 ∷ bit_in 96 13 ∷ bit_in 157 32 ∷ bit_in 283 44 ∷ bit_in 31 8 ∷ []

abbrev pub ConveyorPlaces : Type 0
ConveyorPlaces = map (found conveyor Controller) (codes "LOCAL:1:I" ∷ codes "Local:2:O.Data" ∷ codes "HornT" ∷ codes "HornT.PRE" ∷ codes "Parts.ACC" ∷ codes "Total" ∷ [])
    ≡ place_in (single (User 0)) 0 8 ∷ place_in (single Dint) 8 12 ∷ place_in (single Timer) 16 32 ∷ place_in (single Dint) 20 32 ∷ place_in (single Dint) 40 44 ∷ place_in (single Dint) 52 56 ∷ []

-- ---- rungs

abbrev pub checked_ins : Op → List Operand → Ins
checked_ins op args = record { op = op; args = args }

abbrev pub on_bit : Op → ℕ → Ins
on_bit op n = checked_ins op (operand.Cell (record { kind = KBool; at = n; steps = [] }) ∷ [])

abbrev pub words_at : ℕ → Path
words_at byte = record { kind = KDint; at = 8 * byte; steps = [] }

abbrev pub ConveyorChecked : Type 0
ConveyorChecked = checked conveyor_scope rungs ≡ Ok (
    fork (line (on_bit Xic 32 ∷ [])) (leg (line (on_bit Xic 96 ∷ [])) last) (line (on_bit Xic 33 ∷ on_bit Ote 96 ∷ []))
    ∷ line (on_bit Xic 96 ∷ checked_ins Ton (operand.Timer (words_at 16) ∷ operand.Blank ∷ operand.Blank ∷ []) ∷ [])
    ∷ line (on_bit Xic 96 ∷ on_bit Xio 157 ∷ on_bit Ote 65 ∷ [])
    ∷ line (on_bit Xic 157 ∷ on_bit Ote 64 ∷ [])
    ∷ line (checked_ins Jsr (operand.Routine 1 ∷ operand.Number (pos 0) ∷ []) ∷ [])
    ∷ line (on_bit Xic 34 ∷ checked_ins Ctu (operand.Counter (words_at 32) ∷ operand.Blank ∷ operand.Blank ∷ []) ∷ [])
    ∷ line (on_bit Xic 285 ∷ checked_ins Res (operand.Counter (words_at 32) ∷ []) ∷ [])
    ∷ line (checked_ins Sub (operand.Cell (words_at 52) ∷ operand.Cell (words_at 48) ∷ operand.Cell (words_at 44) ∷ []) ∷ checked_ins Mov (operand.Cell (words_at 52) ∷ operand.Cell (words_at 48) ∷ []) ∷ [])
    ∷ line (on_bit Xic 34 ∷ checked_ins Add (operand.Cell (words_at 52) ∷ operand.Number (pos 1) ∷ operand.Cell (words_at 52) ∷ []) ∷ [])
    ∷ [])
