-- Runs of rungs, zones and calls.
use Rattle.std.specs.Prelude.{◌≡◌, [], ◌∷◌, codes, pos}
use Rattle.spec_base.specs.declared.limits.TheConstants.{LEAST_PRIORITY}
use Rattle.spec_language.specs.declared.types.Base.TheVariants.{Bool as OneBit}
use Rattle.spec_tables.specs.declared.task.TaskKind.TheVariants.{Continuous}
use Rattle.spec_machine.specs.Project.{Project}
use Rattle.test_cases.specs.Samples.{array, bool, dint, timer, counter, continuous, routines, routine, task, plain, with_words, input, is_initially, lines, replay}

-- A program without rungs: each scan begins and leaves its main routine.
abbrev pub empty_program : Project
empty_program = plain [] (continuous [] ∷ []) [] []

abbrev pub EmptyProgram : Type 0
EmptyProgram = replay empty_program (lines (codes "mode run"
    ∷ codes "cpu 4"
    ∷ codes "end"
    ∷ []))
    ≡ lines (codes "0 0 reply 31 ok"
    ∷ codes "0 1 begin T P 0"
    ∷ codes "0 3 begin T P 0"
    ∷ codes "end 0 4 run lost 0"
    ∷ [])

-- A bit examined and another set to it: two instructions, and the routine left.
abbrev pub one_rung : Project
one_rung = plain (bool (codes "a") ∷ bool (codes "b") ∷ []) (continuous (codes "XIC(a)OTE(b);" ∷ []) ∷ []) (is_initially (codes "a") (pos 1) ∷ []) (codes "b" ∷ [])

abbrev pub OneRung : Type 0
OneRung = replay one_rung (lines (codes "mode run"
    ∷ codes "cpu 3"
    ∷ codes "end"
    ∷ []))
    ≡ lines (codes "0 0 reply 31 ok"
    ∷ codes "0 1 begin T P 0"
    ∷ codes "0 3 set b 1"
    ∷ codes "end 0 3 run lost 0"
    ∷ [])

-- A leg without an instruction passes the condition on.
abbrev pub empty_leg : Project
empty_leg = plain (bool (codes "a") ∷ bool (codes "b") ∷ bool (codes "c") ∷ []) (continuous (codes "XIC(a)[XIC(b),]OTE(c);" ∷ []) ∷ []) (is_initially (codes "a") (pos 1) ∷ []) (codes "c" ∷ [])

abbrev pub EmptyLeg : Type 0
EmptyLeg = replay empty_leg (lines (codes "mode run"
    ∷ codes "cpu 4"
    ∷ codes "end"
    ∷ []))
    ≡ lines (codes "0 0 reply 31 ok"
    ∷ codes "0 1 begin T P 0"
    ∷ codes "0 4 set c 1"
    ∷ codes "end 0 4 run lost 0"
    ∷ [])

-- The prescan sets the storage, so the first scan gives no pulse.
abbrev pub one_shot_after_prescan : Project
one_shot_after_prescan = plain (bool (codes "a") ∷ bool (codes "s") ∷ bool (codes "b") ∷ []) (continuous (codes "XIC(a)ONS(s)OTE(b);" ∷ []) ∷ []) (is_initially (codes "a") (pos 1) ∷ []) (codes "s" ∷ codes "b" ∷ [])

abbrev pub OneShotAfterPrescan : Type 0
OneShotAfterPrescan = replay one_shot_after_prescan (lines (codes "mode run"
    ∷ codes "cpu 4"
    ∷ codes "end"
    ∷ []))
    ≡ lines (codes "0 0 reply 31 ok"
    ∷ codes "0 0 set s 1"
    ∷ codes "0 1 begin T P 0"
    ∷ codes "end 0 4 run lost 0"
    ∷ [])

-- Between an MCR with a false condition and the next one, rungs start with a false condition.
abbrev pub disabled_zone : Project
disabled_zone = plain (bool (codes "a") ∷ bool (codes "b") ∷ bool (codes "c") ∷ []) (continuous (codes "XIC(a)MCR();" ∷ codes "OTE(b);" ∷ codes "MCR();" ∷ codes "OTE(c);" ∷ []) ∷ []) [] (codes "b" ∷ codes "c" ∷ [])

abbrev pub DisabledZone : Type 0
DisabledZone = replay disabled_zone (lines (codes "mode run"
    ∷ codes "cpu 6"
    ∷ codes "end"
    ∷ []))
    ≡ lines (codes "0 0 reply 31 ok"
    ∷ codes "0 1 begin T P 0"
    ∷ codes "0 6 set c 1"
    ∷ codes "end 0 6 run lost 0"
    ∷ [])

-- A routine that calls itself: 25 frames nest, and the next call is at fault.
abbrev pub call_depth : Project
call_depth = plain [] (continuous (codes "JSR(M,0);" ∷ []) ∷ []) [] []

abbrev pub CallDepth : Type 0
CallDepth = replay call_depth (lines (codes "mode run"
    ∷ codes "cpu 30"
    ∷ codes "end"
    ∷ []))
    ≡ lines (codes "0 0 reply 31 ok"
    ∷ codes "0 1 begin T P 0"
    ∷ codes "0 26 fault major 4/84 T P"
    ∷ codes "end 0 30 faulted lost 0"
    ∷ [])

-- An empty leg counts wherever it is.
abbrev pub empty_leg_first : Project
empty_leg_first = plain (bool (codes "a") ∷ bool (codes "b") ∷ bool (codes "c") ∷ bool (codes "d") ∷ bool (codes "e") ∷ []) (continuous (codes "XIC(a)[,XIC(b)]OTE(c);" ∷ codes "XIC(a)[XIC(b),,]OTE(d);" ∷ codes "[XIC(a),XIC(b)]OTE(e);" ∷ []) ∷ []) (is_initially (codes "a") (pos 1) ∷ []) (codes "c" ∷ codes "d" ∷ codes "e" ∷ [])

abbrev pub EmptyLegFirst : Type 0
EmptyLegFirst = replay empty_leg_first (lines (codes "mode run"
    ∷ codes "cpu 11"
    ∷ codes "end"
    ∷ []))
    ≡ lines (codes "0 0 reply 31 ok"
    ∷ codes "0 1 begin T P 0"
    ∷ codes "0 4 set c 1"
    ∷ codes "0 7 set d 1"
    ∷ codes "0 10 set e 1"
    ∷ codes "end 0 11 run lost 0"
    ∷ [])

-- Behind a false condition nothing is examined as true, latched or unlatched; AFI makes one.
abbrev pub false_conditions : Project
false_conditions = plain (bool (codes "a") ∷ bool (codes "b") ∷ bool (codes "x") ∷ bool (codes "y") ∷ bool (codes "z") ∷ bool
    (codes "w") ∷ []) (continuous (codes "XIO(a)XIO(b)OTL(x);" ∷ codes "XIO(a)OTU(y);" ∷ codes "AFI()OTL(z);" ∷ codes "OTU(w);" ∷
    []) ∷ []) (is_initially (codes "a") (pos 1) ∷ is_initially (codes "y") (pos 1) ∷ is_initially (codes "w") (pos 1) ∷ [])
    (codes "x" ∷ codes "y" ∷ codes "z" ∷ codes "w" ∷ [])

abbrev pub FalseConditions : Type 0
FalseConditions = replay false_conditions (lines (codes "mode run"
    ∷ codes "cpu 10"
    ∷ codes "end"
    ∷ []))
    ≡ lines (codes "0 0 reply 31 ok"
    ∷ codes "0 1 begin T P 0"
    ∷ codes "0 9 set w 0"
    ∷ codes "end 0 10 run lost 0"
    ∷ [])

-- The change to Run prescans each routine that the main one reaches by the text of a JSR, whatever is before it: M and N,
-- and not K. A subscript out of range does nothing.
abbrev pub prescanned : Project
prescanned = plain (bool (codes "o") ∷ bool (codes "s") ∷ bool (codes "r") ∷ bool (codes "ro") ∷ bool (codes "f") ∷ bool
    (codes "fo") ∷ timer (codes "t1") ∷ timer (codes "t2") ∷ timer (codes "t3") ∷ counter (codes "c1") ∷ counter (codes "c2") ∷ array
    (codes "z") OneBit 32 ∷ dint (codes "i") ∷ bool (codes "n") ∷ bool (codes "k") ∷ []) (task (codes "T") Continuous LEAST_PRIORITY
    (routines (codes "P") (routine (codes "M") (codes "OTE(o)ONS(s)OSR(r,ro)OSF(f,fo);" ∷
    codes "TON(t1,?,?)TOF(t2,?,?)RTO(t3,?,?)CTU(c1,?,?)CTD(c2,?,?);" ∷ codes "OTE(z[i])AFI()JSR(N,0);" ∷ []) ∷ routine (codes "K")
    (codes "OTE(k);" ∷ []) ∷ routine (codes "N") (codes "OTE(n);" ∷ []) ∷ []) ∷ []) ∷ []) (is_initially (codes "o") (pos 1) ∷
    is_initially (codes "ro") (pos 1) ∷ is_initially (codes "f") (pos 1) ∷ is_initially (codes "fo") (pos 1) ∷ is_initially
    (codes "t1.ACC") (pos 3) ∷ is_initially (codes "t1.DN") (pos 1) ∷ is_initially (codes "t2.PRE") (pos 5) ∷ is_initially
    (codes "t3.ACC") (pos 3) ∷ is_initially (codes "t3.DN") (pos 1) ∷ is_initially (codes "z[3]") (pos 1) ∷ is_initially (codes "i")
    (pos 40) ∷ is_initially (codes "n") (pos 1) ∷ is_initially (codes "k") (pos 1) ∷ []) (codes "o" ∷ codes "s" ∷ codes "r" ∷
    codes "ro" ∷ codes "f" ∷ codes "fo" ∷ codes "t1.ACC" ∷ codes "t1.DN" ∷ codes "t2.ACC" ∷ codes "t3.ACC" ∷ codes "t3.DN" ∷
    codes "c1.CU" ∷ codes "c2.CD" ∷ codes "z[3]" ∷ codes "n" ∷ codes "k" ∷ [])

abbrev pub Prescanned : Type 0
Prescanned = replay prescanned (lines (codes "mode run"
    ∷ codes "end"
    ∷ []))
    ≡ lines (codes "0 0 reply 31 ok"
    ∷ codes "0 0 set o 0"
    ∷ codes "0 0 set s 1"
    ∷ codes "0 0 set r 1"
    ∷ codes "0 0 set ro 0"
    ∷ codes "0 0 set f 0"
    ∷ codes "0 0 set fo 0"
    ∷ codes "0 0 set t1.ACC 0"
    ∷ codes "0 0 set t1.DN 0"
    ∷ codes "0 0 set t2.ACC 5"
    ∷ codes "0 0 set t3.DN 0"
    ∷ codes "0 0 set c1.CU 1"
    ∷ codes "0 0 set c2.CD 1"
    ∷ codes "0 0 set n 0"
    ∷ codes "end 0 0 run lost 0"
    ∷ [])

-- A pulse where the condition becomes true, and one where it becomes false.
abbrev pub one_shots : Project
one_shots = with_words (dint (codes "Local:1:I") ∷ bool (codes "s") ∷ bool (codes "r") ∷ bool (codes "u") ∷ bool (codes "f") ∷ []) (continuous (codes "XIC(Local:1:I.0)OSR(s,r);" ∷ codes "XIC(Local:1:I.0)OSF(u,f);" ∷ []) ∷ []) (input (codes "In") (codes "Local:1:I") ∷ []) [] (codes "r" ∷ codes "f" ∷ [])

abbrev pub OneShots : Type 0
OneShots = replay one_shots (lines (codes "mode run"
    ∷ codes "cpu 6"
    ∷ codes "@0 in In 0 1"
    ∷ codes "cpu 12"
    ∷ codes "@0 in In 0 0"
    ∷ codes "cpu 12"
    ∷ codes "end"
    ∷ []))
    ≡ lines (codes "0 0 reply 31 ok"
    ∷ codes "0 1 begin T P 0"
    ∷ codes "0 6 reply 0 ok"
    ∷ codes "0 7 begin T P 0"
    ∷ codes "0 9 set r 1"
    ∷ codes "0 13 begin T P 0"
    ∷ codes "0 15 set r 0"
    ∷ codes "0 18 reply 0 ok"
    ∷ codes "0 19 begin T P 0"
    ∷ codes "0 23 set f 1"
    ∷ codes "0 25 begin T P 0"
    ∷ codes "0 29 set f 0"
    ∷ codes "end 0 30 run lost 0"
    ∷ [])

-- One bit that is both storage and output: what is written last stays.
abbrev pub one_bit_for_both : Project
one_bit_for_both = with_words (dint (codes "Local:1:I") ∷ bool (codes "s") ∷ bool (codes "u") ∷ []) (continuous (codes "XIC(Local:1:I.0)OSR(s,s);" ∷ codes "XIC(Local:1:I.0)OSF(u,u);" ∷ []) ∷ []) (input (codes "In") (codes "Local:1:I") ∷ []) (is_initially (codes "Local:1:I") (pos 1) ∷ []) (codes "s" ∷ codes "u" ∷ [])

abbrev pub OneBitForBoth : Type 0
OneBitForBoth = replay one_bit_for_both (lines (codes "mode run"
    ∷ codes "cpu 12"
    ∷ codes "@0 in In 0 0"
    ∷ codes "cpu 6"
    ∷ codes "end"
    ∷ []))
    ≡ lines (codes "0 0 reply 31 ok"
    ∷ codes "0 1 begin T P 0"
    ∷ codes "0 3 set s 1"
    ∷ codes "0 7 begin T P 0"
    ∷ codes "0 12 reply 0 ok"
    ∷ codes "0 13 begin T P 0"
    ∷ codes "0 15 set s 0"
    ∷ codes "end 0 18 run lost 0"
    ∷ [])

-- A jump keeps the zone: the MCR after the label closes it, whatever its condition.
abbrev pub jump_in_zone : Project
jump_in_zone = plain (bool (codes "a") ∷ bool (codes "b") ∷ []) (continuous (codes "MCR();" ∷ codes "JMP(l);" ∷ codes "LBL(l)XIC(a)MCR();" ∷ codes "OTE(b);" ∷ []) ∷ []) [] (codes "b" ∷ [])

abbrev pub JumpInZone : Type 0
JumpInZone = replay jump_in_zone (lines (codes "mode run"
    ∷ codes "cpu 8"
    ∷ codes "end"
    ∷ []))
    ≡ lines (codes "0 0 reply 31 ok"
    ∷ codes "0 1 begin T P 0"
    ∷ codes "0 7 set b 1"
    ∷ codes "end 0 8 run lost 0"
    ∷ [])

-- A return leaves the rest of its routine out; after the call the condition is as it was.
abbrev pub call_and_return : Project
call_and_return = plain (bool (codes "a") ∷ bool (codes "b") ∷ bool (codes "c") ∷ []) (task (codes "T") Continuous LEAST_PRIORITY (routines (codes "P") (routine (codes "M") (codes "JSR(N,0)OTE(c);" ∷ []) ∷ routine (codes "N") (codes "XIC(a)RET();" ∷ codes "OTE(b);" ∷ []) ∷ []) ∷ []) ∷ []) (is_initially (codes "a") (pos 1) ∷ []) (codes "b" ∷ codes "c" ∷ [])

abbrev pub CallAndReturn : Type 0
CallAndReturn = replay call_and_return (lines (codes "mode run"
    ∷ codes "cpu 7"
    ∷ codes "end"
    ∷ []))
    ≡ lines (codes "0 0 reply 31 ok"
    ∷ codes "0 1 begin T P 0"
    ∷ codes "0 6 set c 1"
    ∷ codes "end 0 7 run lost 0"
    ∷ [])
