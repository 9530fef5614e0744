-- What an instruction may write and what it reads, by the table of operands: nothing else says it.
use Rattle.std.specs.Prelude.{ℕ, Bool, true, false, ◌||◌, not, if◌then◌else◌, List, [], ◌∷◌, ◌++◌, length, map, filter_map, flat_map, unwrap_or, Option, Some, None}
use Rattle.lgx_num.specs.declared.place.Path.{Path}
use Rattle.lgx_num.specs.declared.place.Operand.{Operand}
use Rattle.lgx_num.specs.declared.place.Operand.TheVariants as operand
use Rattle.lgx_rung.specs.declared.ins.Ins.{Ins}
use Rattle.lgx_rung.specs.declared.op.Op.{Op}
use Rattle.lgx_rung.specs.declared.op.Op.TheVariants.{Ons, Osr, Osf, Ton, Rto, Tof, Ctu, Ctd, Mvm}
use Rattle.lgx_rung.specs.declared.operands.OperandKind.{OperandKind}
use Rattle.lgx_rung.specs.declared.operands.OperandKind.TheVariants.{BoolPlace, IntegerPlace, WholeTimer, WholeCounter, TimerOrCounter, CopyTarget, FillTarget}
use Rattle.lgx_rung.specs.OperandTable.{operand_kinds}
use Rattle.spec_scan.specs.Fits.{operand_at, number_told}

-- what is wanted where something is written: no number and no flag may be there
abbrev pub is_written : OperandKind → Bool
is_written BoolPlace = true
is_written IntegerPlace = true
is_written WholeTimer = true
is_written WholeCounter = true
is_written TimerOrCounter = true
is_written CopyTarget = true
is_written FillTarget = true
is_written _ = false

-- the operands whose kind passes a test
abbrev pub those_of : (OperandKind → Bool) → List OperandKind → List Operand → List Operand
those_of test (kind ∷ kinds) (o ∷ os) = if test kind then o ∷ those_of test kinds os else those_of test kinds os
those_of test _ _ = []

abbrev pub kinds_of : Ins → List OperandKind
kinds_of i = unwrap_or (operand_kinds i.op (number_told (operand_at i.args 1)) (length i.args)) []

-- the operands that the instruction's row may change
abbrev pub written : Ins → List Operand
written i = those_of is_written (kinds_of i) i.args

-- the instructions that read what they write: the one-shots, timers and counters that count, and the masked move
abbrev pub reads_written : Op → Bool
reads_written Ons = true
reads_written Osr = true
reads_written Osf = true
reads_written Ton = true
reads_written Rto = true
reads_written Tof = true
reads_written Ctu = true
reads_written Ctd = true
reads_written Mvm = true
reads_written _ = false

abbrev pub read : Ins → List Operand
read i = those_of (λ kind. reads_written i.op || not (is_written kind)) (kinds_of i) i.args

-- ---- their bits

abbrev pub path_told : Operand → Option Path
path_told (operand.Cell p) = Some p
path_told (operand.Timer p) = Some p
path_told (operand.Counter p) = Some p
path_told (operand.Block b) = Some b.path
path_told _ = None

-- the first bit if all subscripts are 0, and the bits of the subscripts themselves
abbrev pub first_bits : List Operand → List ℕ
first_bits operands = map (λ p. p.at) (filter_map path_told operands)

abbrev pub subscript_bits : List Operand → List ℕ
subscript_bits operands = flat_map (λ p. map (λ s. s.of.at) p.steps) (filter_map path_told operands)

abbrev pub bits_written : Ins → List ℕ
bits_written i = first_bits (written i)

abbrev pub bits_read : Ins → List ℕ
bits_read i = first_bits (read i) ++ subscript_bits i.args
