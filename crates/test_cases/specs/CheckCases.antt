-- Cases of checked text: operands resolved, each code, and codes whose order matters.
use Rattle.std.specs.Prelude.{◌≡◌, ℕ, ◌-◌, List, [], ◌∷◌, map, codes, replicate, ℤ, pos, neg_ℤ, Option, Some, None, Result, Ok, option_map}
use Rattle.std.specs.Result.{result_err}
use Rattle.spec_base.specs.declared.limits.TheConstants.{MAX_ROUTINE_INSTRUCTIONS}
use Rattle.lgx_num.specs.declared.number.Kind.{Kind}
use Rattle.lgx_num.specs.declared.number.Kind.TheVariants.{Sint as KSint, Int as KInt, Dint as KDint}
use Rattle.lgx_num.specs.declared.place.Path.{Path}
use Rattle.lgx_num.specs.declared.place.Flag.TheVariants.{First, Overflow, Zero, Negative}
use Rattle.lgx_num.specs.declared.place.Operand.{Operand}
use Rattle.lgx_num.specs.declared.place.Operand.TheVariants as operand
use Rattle.lgx_rung.specs.Tree.{Tree, end, one, fork, last, leg, Source, SourceIns}
use Rattle.lgx_rung.specs.declared.op.Op.{Op}
use Rattle.lgx_rung.specs.declared.op.Op.TheVariants.{Xic, Ote, Osr, Ton, Ctu, Res, Add, Mov, Clr, Cop, Cps, Fll, Jsr, Jmp, Lbl, Nop, Event}
use Rattle.lgx_rung.specs.declared.fault.CheckCode.{CheckCode}
use Rattle.lgx_rung.specs.declared.fault.CheckCode.TheVariants.{C1, C2, C3, C4, C5, C6, C7, C8, C9, C10, C11, C12, C13, C14, C15, C16}
use Rattle.lgx_rung.specs.declared.fault.CheckFault.{CheckFault}
use Rattle.lgx_rung.specs.declared.ins.Ins.{Ins}
use Rattle.spec_language.specs.Checked.{checked, checked_from, instruction_of}
use Rattle.test_cases.specs.ConveyorTags.{ins, line}
use Rattle.test_cases.specs.ConveyorCases.{checked_ins, words_at}
use Rattle.test_cases.specs.ResolutionCases.{over}
use Rattle.test_cases.specs.ShopTags.{shop_scope}

-- ---- operands of one instruction

-- a rung of this instruction alone, checked
abbrev pub alone : SourceIns → Result (List (Tree Ins)) CheckFault
alone i = checked shop_scope (line (i ∷ []) ∷ [])

abbrev pub only_ins : Op → List Operand → Result (List (Tree Ins)) CheckFault
only_ins op args = Ok (line (checked_ins op args ∷ []) ∷ [])

abbrev pub cell : Kind → ℕ → Operand
cell kind bit = operand.Cell (record { kind = kind; at = bit; steps = [] })

abbrev pub block : Path → ℕ → ℕ → Operand
block path size stop = operand.Block (record { path = path; size = size; stop = stop })

-- numbers of each base, with underscores, and at the ends of their ranges
abbrev pub moved_number : List ℕ → Result (List (Tree Ins)) CheckFault
moved_number text = alone (ins Mov (text ∷ codes "i" ∷ []))

abbrev pub gives_number : ℤ → Result (List (Tree Ins)) CheckFault
gives_number n = only_ins Mov (operand.Number n ∷ cell KInt 3200 ∷ [])

abbrev pub Numbers : Type 0
Numbers = map moved_number (codes "0" ∷ codes "-0_08" ∷ codes "1_000" ∷ codes "2147483647" ∷ codes "-2147483648" ∷ codes "2#1010_1010" ∷ codes "8#17" ∷ codes "16#fF" ∷ codes "16#7FFF_FFFF" ∷ codes "16#FFFFFFFF" ∷ codes "16#80000000" ∷ [])
    ≡ map gives_number (pos 0 ∷ neg_ℤ (pos 8) ∷ pos 1000 ∷ pos 2147483647 ∷ neg_ℤ (pos 2147483648) ∷ pos 170 ∷ pos 15 ∷ pos 255 ∷ pos 2147483647 ∷ neg_ℤ (pos 1) ∷ neg_ℤ (pos 2147483648) ∷ [])

abbrev pub flag_tested : List ℕ → Result (List (Tree Ins)) CheckFault
flag_tested text = alone (ins Xic (text ∷ []))

abbrev pub FlagOperands : Type 0
FlagOperands = map flag_tested (codes "S:FS" ∷ codes "S:V" ∷ codes "S:Z" ∷ codes "S:N" ∷ [])
    ≡ map (λ f. only_ins Xic (operand.FlagOf f ∷ [])) (First ∷ Overflow ∷ Zero ∷ Negative ∷ [])

-- timers, counters and blocks: a block counts by elements, up to the end of its tag
abbrev pub WholeOperands : Type 0
WholeOperands = map alone (
    ins Ton (codes "cells[i].t" ∷ codes "?" ∷ codes "?" ∷ [])
    ∷ ins Res (codes "t" ∷ []) ∷ ins Res (codes "c" ∷ [])
    ∷ ins Cop (codes "arr[1]" ∷ codes "cells" ∷ codes "i" ∷ [])
    ∷ ins Cps (codes "cells[1].inner" ∷ codes "t" ∷ codes "4" ∷ [])
    ∷ ins Fll (codes "s" ∷ codes "arr" ∷ codes "16#2" ∷ [])
    ∷ [])
    ≡ only_ins Ton (operand.Timer (record { kind = KDint; at = 256; steps = over KInt 400 576 3 ∷ [] }) ∷ operand.Blank ∷ operand.Blank ∷ [])
    ∷ only_ins Res (operand.Timer (words_at 244) ∷ []) ∷ only_ins Res (operand.Counter (words_at 260) ∷ [])
    ∷ only_ins Cop (block (words_at 4) 4 16 ∷ block (words_at 28) 72 244 ∷ cell KInt 3200 ∷ [])
    ∷ only_ins Cps (block (words_at 144) 12 244 ∷ block (words_at 244) 16 260 ∷ operand.Number (pos 4) ∷ [])
    ∷ only_ins Fll (cell KSint 160 ∷ block (words_at 0) 4 16 ∷ operand.Number (pos 2) ∷ [])
    ∷ []

-- routines and event tasks by number, labels by the number of their rung; names in any case
abbrev pub Named : Type 0
Named = checked shop_scope (
    line (ins Jmp (codes "L2" ∷ []) ∷ [])
    ∷ line (ins Lbl (codes "l1" ∷ []) ∷ ins Jsr (codes "n" ∷ []) ∷ [])
    ∷ line (ins Lbl (codes "l2" ∷ []) ∷ ins Event (codes "e" ∷ []) ∷ ins Jmp (codes "L1" ∷ []) ∷ [])
    ∷ [])
    ≡ Ok (
    line (checked_ins Jmp (operand.Label 2 ∷ []) ∷ [])
    ∷ line (checked_ins Lbl (operand.Label 1 ∷ []) ∷ checked_ins Jsr (operand.Routine 1 ∷ []) ∷ [])
    ∷ line (checked_ins Lbl (operand.Label 2 ∷ []) ∷ checked_ins Event (operand.Task 1 ∷ []) ∷ checked_ins Jmp (operand.Label 1 ∷ []) ∷ [])
    ∷ [])

-- ---- codes of one instruction

abbrev pub code_alone : SourceIns → Option CheckCode
code_alone i = option_map (λ f. f.code) (result_err (alone i))

abbrev pub WrongCounts : Type 0
WrongCounts = map code_alone (ins Xic [] ∷ ins Xic (codes "only" ∷ codes "zz" ∷ []) ∷ ins Ton (codes "t" ∷ codes "?" ∷ []) ∷ ins Jsr [] ∷ ins Jsr (codes "M" ∷ codes "2" ∷ codes "i" ∷ []) ∷ ins Nop (codes "zz" ∷ []) ∷ ins Lbl (codes "a" ∷ codes "b" ∷ []) ∷ [])
    ≡ replicate 7 (Some C1)

-- C2: what was found isn't what is wanted; a number or a flag where neither may be; a text that is no name
abbrev pub WrongTypes : Type 0
WrongTypes = map code_alone (
    ins Xic (codes "5" ∷ []) ∷ ins Xic (codes "99999999999" ∷ []) ∷ ins Xic (codes "i" ∷ []) ∷ ins Xic (codes "bits" ∷ []) ∷ ins Ote (codes "t" ∷ [])
    ∷ ins Add (codes "i" ∷ codes "S:V" ∷ codes "i" ∷ []) ∷ ins Add (codes "arr" ∷ codes "i" ∷ codes "i" ∷ []) ∷ ins Add (codes "1" ∷ codes "2" ∷ codes "only" ∷ [])
    ∷ ins Ton (codes "c" ∷ codes "?" ∷ codes "?" ∷ []) ∷ ins Ton (codes "5" ∷ codes "?" ∷ codes "?" ∷ []) ∷ ins Ton (codes "t" ∷ codes "5" ∷ codes "?" ∷ []) ∷ ins Ton (codes "t" ∷ codes "?" ∷ codes "i" ∷ []) ∷ ins Ton (codes "t" ∷ codes "99999999999" ∷ codes "?" ∷ [])
    ∷ ins Ctu (codes "cells[0].c" ∷ codes "?" ∷ codes "?" ∷ []) ∷ ins Res (codes "i" ∷ [])
    ∷ ins Cop (codes "5" ∷ codes "arr" ∷ codes "1" ∷ []) ∷ ins Cop (codes "S:V" ∷ codes "arr" ∷ codes "1" ∷ []) ∷ ins Cop (codes "bits" ∷ codes "arr" ∷ codes "1" ∷ []) ∷ ins Cop (codes "arr" ∷ codes "only" ∷ codes "1" ∷ []) ∷ ins Fll (codes "1" ∷ codes "cells" ∷ codes "1" ∷ [])
    ∷ ins Jsr (codes "1x" ∷ []) ∷ ins Jsr (codes "M" ∷ codes "9" ∷ []) ∷ ins Jsr (codes "Z" ∷ codes "?" ∷ []) ∷ ins Jmp (codes "5" ∷ []) ∷ ins Lbl (codes "S:V" ∷ []) ∷ ins Event (codes "?" ∷ [])
    ∷ [])
    ≡ replicate 26 (Some C2)

abbrev pub NoPlaces : Type 0
NoPlaces = map code_alone (
    ins Ote (codes "5" ∷ []) ∷ ins Ote (codes "S:V" ∷ []) ∷ ins Osr (codes "only" ∷ codes "1" ∷ []) ∷ ins Add (codes "1" ∷ codes "2" ∷ codes "3" ∷ []) ∷ ins Add (codes "1" ∷ codes "2" ∷ codes "99999999999" ∷ []) ∷ ins Clr (codes "S:N" ∷ [])
    ∷ ins Fll (codes "1" ∷ codes "2" ∷ codes "3" ∷ []) ∷ ins Fll (codes "1" ∷ codes "S:V" ∷ codes "3" ∷ []) ∷ ins Cop (codes "arr" ∷ codes "S:Z" ∷ codes "1" ∷ []) ∷ ins Cps (codes "arr" ∷ codes "7" ∷ codes "1" ∷ [])
    ∷ [])
    ≡ replicate 10 (Some C3)

-- the codes of what an operand doesn't name
abbrev pub NoTags : Type 0
NoTags = map code_alone (
    ins Xic (codes "zz" ∷ []) ∷ ins Xic (codes "t.QQ" ∷ []) ∷ ins Clr (codes "arr[4]" ∷ []) ∷ ins Clr (codes "arr[only]" ∷ []) ∷ ins Clr (codes "deep[i].m[i].m[i].m[i].m[i]" ∷ []) ∷ ins Xic (codes "?" ∷ []) ∷ ins Clr (codes "1__0" ∷ []) ∷ ins Xic (codes "s:fs" ∷ []) ∷ ins Clr (codes "2#12" ∷ []) ∷ ins Clr (codes "16#" ∷ [])
    ∷ ins Ton (codes "t" ∷ codes "zz" ∷ codes "?" ∷ []) ∷ ins Ton (codes "t" ∷ codes "?" ∷ codes "1x" ∷ [])
    ∷ [])
    ≡ Some C4 ∷ Some C5 ∷ Some C6 ∷ Some C7 ∷ Some C8 ∷ Some C9 ∷ Some C9 ∷ Some C9 ∷ Some C9 ∷ Some C9 ∷ Some C4 ∷ Some C9 ∷ []

abbrev pub OutsideNumbers : Type 0
OutsideNumbers = map code_alone (
    ins Mov (codes "2147483648" ∷ codes "i" ∷ []) ∷ ins Mov (codes "-2147483649" ∷ codes "i" ∷ []) ∷ ins Mov (codes "16#1_0000_0000" ∷ codes "i" ∷ []) ∷ ins Cop (codes "arr" ∷ codes "arr" ∷ codes "99999999999" ∷ [])
    ∷ [])
    ≡ replicate 4 (Some C10)

-- no such routine, label or event task
abbrev pub NoNames : Type 0
NoNames = map code_alone (ins Jsr (codes "Z" ∷ codes "0" ∷ []) ∷ ins Jmp (codes "l" ∷ []) ∷ ins Event (codes "Q" ∷ []) ∷ ins Event (codes "T" ∷ []) ∷ [])
    ≡ Some C11 ∷ Some C12 ∷ Some C15 ∷ Some C15 ∷ []

-- of one instruction the least number, whichever operand has it
abbrev pub LeastCodes : Type 0
LeastCodes = map code_alone (ins Add (codes "99999999999" ∷ codes "zz" ∷ codes "i" ∷ []) ∷ ins Add (codes "zz" ∷ codes "i" ∷ codes "5" ∷ []) ∷ ins Add (codes "1x" ∷ codes "arr[9]" ∷ codes "only" ∷ []) ∷ ins Add (codes "1x" ∷ codes "arr[9]" ∷ codes "i" ∷ []) ∷ [])
    ≡ Some C4 ∷ Some C3 ∷ Some C2 ∷ Some C6 ∷ []

-- ---- faults of a routine

abbrev pub fault_at : CheckCode → ℕ → ℕ → Option CheckFault
fault_at code rung i = Some (record { code = code; rung = rung; ins = i })

abbrev pub fault_of : List Source → Option CheckFault
fault_of rungs = result_err (checked shop_scope rungs)

-- the first in order of instructions, in forks by the order of the text
abbrev pub FirstFaults : Type 0
FirstFaults = map fault_of (
    (line (ins Xic (codes "zz" ∷ []) ∷ ins Ote (codes "only" ∷ []) ∷ []) ∷ [])
    ∷ (line (ins Xic (codes "only" ∷ []) ∷ []) ∷ line (ins Xic (codes "only" ∷ []) ∷ ins Jmp (codes "l" ∷ []) ∷ ins Ote [] ∷ []) ∷ [])
    ∷ (one (ins Xic (codes "only" ∷ [])) (fork (line (ins Xic (codes "only" ∷ []) ∷ [])) (leg end (leg (line (ins Xic (codes "only" ∷ []) ∷ ins Xic (codes "zz" ∷ []) ∷ [])) last)) (line (ins Ote [] ∷ []))) ∷ [])
    ∷ (fork (line (ins Nop [] ∷ [])) (leg (line (ins Nop [] ∷ ins Nop [] ∷ [])) last) (line (ins Ote [] ∷ [])) ∷ [])
    ∷ [])
    ≡ fault_at C4 0 0 ∷ fault_at C12 1 1 ∷ fault_at C4 0 3 ∷ fault_at C1 0 3 ∷ []

abbrev pub lbl : List ℕ → SourceIns
lbl name = ins Lbl (name ∷ [])

-- a repeated label; an LBL after another element, at the end of a fork's leg, and at the beginning of one; a jump before an
-- LBL that isn't first has no fault; an LBL with two operands gives no label
abbrev pub LabelFaults : Type 0
LabelFaults = map fault_of (
    (line (lbl (codes "l") ∷ []) ∷ line (ins Nop [] ∷ []) ∷ line (lbl (codes "L") ∷ []) ∷ [])
    ∷ (line (lbl (codes "l") ∷ lbl (codes "l") ∷ []) ∷ [])
    ∷ (line (ins Nop [] ∷ lbl (codes "l") ∷ []) ∷ [])
    ∷ (fork (line (lbl (codes "l") ∷ [])) (leg end last) end ∷ [])
    ∷ (fork end (leg (line (ins Nop [] ∷ lbl (codes "l") ∷ [])) last) end ∷ [])
    ∷ (line (ins Jmp (codes "l" ∷ []) ∷ []) ∷ line (ins Nop [] ∷ lbl (codes "l") ∷ []) ∷ [])
    ∷ (line (ins Jmp (codes "l" ∷ []) ∷ []) ∷ line (ins Lbl (codes "l" ∷ codes "l" ∷ []) ∷ []) ∷ [])
    ∷ [])
    ≡ fault_at C13 2 0 ∷ fault_at C13 0 1 ∷ fault_at C14 0 1 ∷ fault_at C14 0 0 ∷ fault_at C14 0 1 ∷ fault_at C14 1 1 ∷ fault_at C12 0 0 ∷ []

-- rungs from this one on, after `before` instructions
abbrev pub fault_after : ℕ → ℕ → List Source → Option CheckFault
fault_after rung before rungs = result_err (checked_from (instruction_of shop_scope []) rung before rungs)

abbrev pub LongRoutines : Type 0
LongRoutines = fault_after 128 (MAX_ROUTINE_INSTRUCTIONS - 1) (line (ins Nop [] ∷ ins Nop [] ∷ []) ∷ []) ∷ fault_after 7 MAX_ROUTINE_INSTRUCTIONS (end ∷ line (ins Nop [] ∷ []) ∷ []) ∷ fault_after 7 MAX_ROUTINE_INSTRUCTIONS (line (ins Xic (codes "zz" ∷ []) ∷ []) ∷ []) ∷ fault_after 7 (MAX_ROUTINE_INSTRUCTIONS - 1) (line (ins Nop [] ∷ []) ∷ []) ∷ []
    ≡ fault_at C16 128 1 ∷ fault_at C16 8 0 ∷ fault_at C4 7 0 ∷ None ∷ []
