-- The prescan of a program: what the change to Run does to its tags (profile).
use Rattle.std.specs.Prelude.{ℕ, zero, suc, ◌||◌, Bool, true, false, List, [], ◌∷◌, length, nat_eq, pos, Option, Some, None, fold, flat_map, filter}
use Rattle.std.specs.List.{list_any, range_with_len}
use Rattle.lgx_num.specs.declared.place.Operand.{Operand}
use Rattle.lgx_num.specs.declared.place.Operand.TheVariants.{Routine}
use Rattle.lgx_rung.specs.declared.op.Op.{Op}
use Rattle.lgx_rung.specs.declared.op.Op.TheVariants.{Ote, Ons, Osr, Osf, Ton, Rto, Tof, Ctu, Ctd, Jsr}
use Rattle.lgx_rung.specs.Tree.{instructions}
use Rattle.lgx_rung.specs.declared.ins.Ins.{Ins}
use Rattle.spec_scan.specs.declared.bound.Arg.{Arg}
use Rattle.spec_scan.specs.Arguments.{bind, arg, byte_of, put_bit}
use Rattle.spec_scan.specs.StatusWords.{en_bit, tt_bit, dn_bit, cu_bit, cd_bit, put_status, pre, put_acc}
use Rattle.spec_scan.specs.Position.{Rungs, ProgramRungs, routine_rungs}

-- ---- the routines

abbrev pub called_by : Op → List Operand → List ℕ
called_by Jsr (Routine n ∷ _) = n ∷ []
called_by _ _ = []

-- the routines that these rungs call by JSR, whatever comes before it
abbrev pub calls : Rungs → List ℕ
calls rungs = flat_map (λ r. flat_map (λ i. called_by i.op i.args) (instructions r)) rungs

abbrev pub is_called : ProgramRungs → List ℕ → ℕ → Bool
is_called program callers n = list_any (λ r. list_any (nat_eq n) (calls (routine_rungs program r))) callers

-- The routines that the main routine reaches by at most a given number of calls, itself among them: each once, in the program's
-- order.
abbrev pub reached_by : ℕ → ProgramRungs → List ℕ
reached_by zero program = program.main ∷ []
reached_by (suc k) program =
    let found = reached_by k program in
    filter (λ n. list_any (nat_eq n) found || is_called program found n) (range_with_len 0 (length program.routines))

-- no path of calls without a repetition is longer than the list of routines
abbrev pub reached : ProgramRungs → List ℕ
reached program = reached_by (length program.routines) program

-- ---- the instructions

abbrev pub timer_bits_off : ℕ → List ℕ → List ℕ
timer_bits_off at image = put_status at en_bit false (put_status at tt_bit false (put_status at dn_bit false image))

-- The bit of an OTE is off. The storage of a one-shot is such that its first execution gives no pulse. The bits of timers
-- are off, the accumulator of a TON is 0, and that of a TOF its preset. The bit of a counter is such that its first
-- execution doesn't count. All others do nothing.
abbrev pub prescan_one : Op → List Arg → List ℕ → List ℕ
prescan_one Ote args image = put_bit image (arg args 0) false
prescan_one Ons args image = put_bit image (arg args 0) true
prescan_one Osr args image = put_bit (put_bit image (arg args 0) true) (arg args 1) false
prescan_one Osf args image = put_bit (put_bit image (arg args 0) false) (arg args 1) false
prescan_one Ton args image = put_acc (byte_of (arg args 0)) (pos 0) (timer_bits_off (byte_of (arg args 0)) image)
prescan_one Tof args image =
    put_acc (byte_of (arg args 0)) (pre image (byte_of (arg args 0))) (timer_bits_off (byte_of (arg args 0)) image)
prescan_one Rto args image = timer_bits_off (byte_of (arg args 0)) image
prescan_one Ctu args image = put_status (byte_of (arg args 0)) cu_bit true image
prescan_one Ctd args image = put_status (byte_of (arg args 0)) cd_bit true image
prescan_one _ args image = image

-- A subscript out of range makes it do nothing.
abbrev pub prescan_bound : Op → List ℕ → Option (List Arg) → List ℕ
prescan_bound op image None = image
prescan_bound op image (Some args) = prescan_one op args image

abbrev pub prescan_ins : List ℕ → Ins → List ℕ
prescan_ins image i = prescan_bound i.op image (bind image i.args)

-- the instructions of the reached routines, routine by routine in the order of the text
abbrev pub reached_instructions : ProgramRungs → List Ins
reached_instructions program = flat_map (λ n. flat_map instructions (routine_rungs program n)) (reached program)

abbrev pub prescan : ProgramRungs → List ℕ → List ℕ
prescan program image = fold prescan_ins image (reached_instructions program)
