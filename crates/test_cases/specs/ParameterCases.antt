-- Cases of checked calls: counts, inputs and returns, and where an SBR may be.
use Rattle.std.specs.Prelude.{◌≡◌, ℕ, List, [], ◌∷◌, ◌++◌, map, codes, replicate, pos, Some, None}
use Rattle.lgx_num.specs.declared.number.Kind.TheVariants.{Int as KInt, Dint as KDint}
use Rattle.lgx_num.specs.declared.place.Operand.{Operand}
use Rattle.lgx_num.specs.declared.place.Operand.TheVariants as operand
use Rattle.lgx_rung.specs.Tree.{end, fork, last, leg, SourceIns}
use Rattle.lgx_rung.specs.declared.op.Op.TheVariants.{Jsr, Sbr, Ret, Nop}
use Rattle.lgx_rung.specs.declared.fault.CheckCode.TheVariants.{C1, C2, C3, C4, C10, C11, C17}
use Rattle.test_cases.specs.ConveyorTags.{ins, line}
use Rattle.test_cases.specs.CheckCases.{alone, only_ins, cell, code_alone, fault_at, fault_of}

abbrev pub ones : ℕ → List (List ℕ)
ones n = replicate n (codes "1")

abbrev pub one_numbers : ℕ → List Operand
one_numbers n = replicate n (operand.Number (pos 1))

-- no parameters; a count as numbers are written; inputs and then returns; the most of each
abbrev pub Parameters : Type 0
Parameters = map alone (
    ins Jsr (codes "N" ∷ codes "-0" ∷ [])
    ∷ ins Jsr (codes "N" ∷ codes "00_2" ∷ codes "i" ∷ codes "16#1" ∷ codes "arr[1]" ∷ codes "i" ∷ [])
    ∷ ins Jsr (codes "N" ∷ codes "08" ∷ ones 8 ++ replicate 8 (codes "i"))
    ∷ ins Sbr (codes "i" ∷ codes "arr[1]" ∷ []) ∷ ins Sbr [] ∷ ins Sbr (replicate 8 (codes "i"))
    ∷ ins Ret (codes "i" ∷ codes "1" ∷ []) ∷ ins Ret [] ∷ ins Ret (ones 8)
    ∷ [])
    ≡ only_ins Jsr (operand.Routine 1 ∷ operand.Number (pos 0) ∷ [])
    ∷ only_ins Jsr (operand.Routine 1 ∷ operand.Number (pos 2) ∷ cell KInt 3200 ∷ operand.Number (pos 1) ∷ cell KDint 32 ∷ cell KInt 3200 ∷ [])
    ∷ only_ins Jsr (operand.Routine 1 ∷ operand.Number (pos 8) ∷ one_numbers 8 ++ replicate 8 (cell KInt 3200))
    ∷ only_ins Sbr (cell KInt 3200 ∷ cell KDint 32 ∷ []) ∷ only_ins Sbr [] ∷ only_ins Sbr (replicate 8 (cell KInt 3200))
    ∷ only_ins Ret (cell KInt 3200 ∷ operand.Number (pos 1) ∷ []) ∷ only_ins Ret [] ∷ only_ins Ret (one_numbers 8)
    ∷ []

-- fewer operands than inputs, or more than the returns that there may be; without a count more than any JSR has
abbrev pub WrongParameterCounts : Type 0
WrongParameterCounts = map code_alone (
    ins Jsr [] ∷ ins Jsr (codes "M" ∷ codes "1" ∷ []) ∷ ins Jsr (codes "M" ∷ codes "8" ∷ ones 7)
    ∷ ins Jsr (codes "M" ∷ codes "0" ∷ replicate 9 (codes "i")) ∷ ins Jsr (codes "M" ∷ codes "8" ∷ ones 17) ∷ ins Jsr (codes "M" ∷ codes "i" ∷ ones 17)
    ∷ ins Sbr (replicate 9 (codes "i")) ∷ ins Ret (ones 9)
    ∷ [])
    ≡ replicate 8 (Some C1)

-- no count: what names a place, a flag, a number of another base, and numbers that are too great, negative or out of
-- range; then nothing is said of the other operands
abbrev pub NoCounts : Type 0
NoCounts = map code_alone (
    ins Jsr (codes "M" ∷ codes "i" ∷ []) ∷ ins Jsr (codes "M" ∷ codes "S:V" ∷ []) ∷ ins Jsr (codes "M" ∷ codes "2#1" ∷ codes "i" ∷ [])
    ∷ ins Jsr (codes "M" ∷ codes "9" ∷ ones 9) ∷ ins Jsr (codes "M" ∷ codes "-1" ∷ []) ∷ ins Jsr (codes "M" ∷ codes "99999999999" ∷ [])
    ∷ ins Jsr (codes "M" ∷ codes "zz" ∷ replicate 16 (codes "zz"))
    ∷ [])
    ≡ replicate 7 (Some C2)

-- what stands for an input or a return is of its type, and is there
abbrev pub WrongParameters : Type 0
WrongParameters = map code_alone (
    ins Jsr (codes "M" ∷ codes "1" ∷ codes "S:V" ∷ []) ∷ ins Sbr (codes "only" ∷ []) ∷ ins Ret (codes "arr" ∷ [])
    ∷ ins Jsr (codes "M" ∷ codes "0" ∷ codes "5" ∷ []) ∷ ins Jsr (codes "M" ∷ codes "0" ∷ codes "S:V" ∷ []) ∷ ins Sbr (codes "5" ∷ [])
    ∷ ins Jsr (codes "M" ∷ codes "1" ∷ codes "zz" ∷ []) ∷ ins Ret (codes "99999999999" ∷ []) ∷ ins Jsr (codes "Z" ∷ codes "1" ∷ codes "1" ∷ [])
    ∷ [])
    ≡ Some C2 ∷ Some C2 ∷ Some C2 ∷ Some C3 ∷ Some C3 ∷ Some C3 ∷ Some C4 ∷ Some C10 ∷ Some C11 ∷ []

abbrev pub sbr : SourceIns
sbr = ins Sbr []

-- an SBR is the first element of its routine's first rung; the least number is named if it has other faults
abbrev pub EntryFaults : Type 0
EntryFaults = map fault_of (
    (line (sbr ∷ ins Nop [] ∷ []) ∷ line (ins Nop [] ∷ []) ∷ [])
    ∷ (line (ins Nop [] ∷ sbr ∷ []) ∷ [])
    ∷ (line (sbr ∷ sbr ∷ []) ∷ [])
    ∷ (end ∷ line (sbr ∷ []) ∷ [])
    ∷ (fork (line (sbr ∷ [])) (leg end last) end ∷ [])
    ∷ (line (ins Nop [] ∷ ins Sbr (replicate 9 (codes "i")) ∷ []) ∷ [])
    ∷ [])
    ≡ None ∷ fault_at C17 0 1 ∷ fault_at C17 0 1 ∷ fault_at C17 1 0 ∷ fault_at C17 0 0 ∷ fault_at C1 0 1 ∷ []
