-- Runs of comparisons, arithmetic and subscripts.
use Rattle.std.specs.Prelude.{◌≡◌, [], ◌∷◌, codes, pos}
use Rattle.spec_language.specs.declared.types.Base.TheVariants.{Dint}
use Rattle.spec_machine.specs.Project.{Project}
use Rattle.test_cases.specs.Samples.{array, bool, sint, dint, continuous, plain, with_words, input, is_initially, lines, replay}

-- A sum too great for its destination keeps its low bits, a quotient by 0 is the dividend; both are minor faults.
abbrev pub overflow_and_zero_divisor : Project
overflow_and_zero_divisor = plain (sint (codes "x") ∷ dint (codes "y") ∷ bool (codes "v") ∷ []) (continuous (codes "ADD(120,10,x)DIV(7,0,y)XIC(S:V)OTE(v);" ∷ []) ∷ []) [] (codes "x" ∷ codes "y" ∷ codes "v" ∷ [])

abbrev pub OverflowAndZeroDivisor : Type 0
OverflowAndZeroDivisor = replay overflow_and_zero_divisor (lines (codes "mode run"
    ∷ codes "cpu 5"
    ∷ codes "end"
    ∷ []))
    ≡ lines (codes "0 0 reply 31 ok"
    ∷ codes "0 1 begin T P 0"
    ∷ codes "0 2 fault minor 4/4 T P"
    ∷ codes "0 2 set x -126"
    ∷ codes "0 3 fault minor 4/4 T P"
    ∷ codes "0 3 set y 7"
    ∷ codes "0 5 set v 1"
    ∷ codes "end 0 5 run lost 0"
    ∷ [])

-- The instruction changes nothing, and the controller is faulted.
abbrev pub subscript_out_of_range : Project
subscript_out_of_range = plain (array (codes "arr") Dint 4 ∷ dint (codes "i") ∷ dint (codes "n") ∷ []) (continuous (codes "MOV(9,n)MOV(1,arr[i]);" ∷ []) ∷ []) (is_initially (codes "i") (pos 4) ∷ []) (codes "n" ∷ codes "arr[0]" ∷ [])

abbrev pub SubscriptOutOfRange : Type 0
SubscriptOutOfRange = replay subscript_out_of_range (lines (codes "mode run"
    ∷ codes "cpu 4"
    ∷ codes "end"
    ∷ []))
    ≡ lines (codes "0 0 reply 31 ok"
    ∷ codes "0 1 begin T P 0"
    ∷ codes "0 2 set n 9"
    ∷ codes "0 3 fault major 4/20 T P"
    ∷ codes "end 0 4 faulted lost 0"
    ∷ [])

-- LIM with the low limit below the high one, and the other way round.
abbrev pub limits : Project
limits = with_words (dint (codes "Local:1:I") ∷ bool (codes "x") ∷ bool (codes "y") ∷ []) (continuous (codes "LIM(2,Local:1:I,5)OTE(x);" ∷ codes "LIM(5,Local:1:I,2)OTE(y);" ∷ []) ∷ []) (input (codes "In") (codes "Local:1:I") ∷ []) [] (codes "x" ∷ codes "y" ∷ [])

abbrev pub Limits : Type 0
Limits = replay limits (lines (codes "mode run"
    ∷ codes "cpu 6"
    ∷ codes "@0 in In 0 2"
    ∷ codes "cpu 6"
    ∷ codes "@0 in In 0 3"
    ∷ codes "cpu 6"
    ∷ codes "@0 in In 0 5"
    ∷ codes "cpu 6"
    ∷ codes "@0 in In 0 6"
    ∷ codes "cpu 6"
    ∷ codes "end"
    ∷ []))
    ≡ lines (codes "0 0 reply 31 ok"
    ∷ codes "0 1 begin T P 0"
    ∷ codes "0 5 set y 1"
    ∷ codes "0 6 reply 0 ok"
    ∷ codes "0 7 begin T P 0"
    ∷ codes "0 9 set x 1"
    ∷ codes "0 12 reply 0 ok"
    ∷ codes "0 13 begin T P 0"
    ∷ codes "0 17 set y 0"
    ∷ codes "0 18 reply 0 ok"
    ∷ codes "0 19 begin T P 0"
    ∷ codes "0 23 set y 1"
    ∷ codes "0 24 reply 0 ok"
    ∷ codes "0 25 begin T P 0"
    ∷ codes "0 27 set x 0"
    ∷ codes "end 0 30 run lost 0"
    ∷ [])

-- Quotients and remainders of negative numbers, results that don't fit, and operations bit by bit.
abbrev pub results : Project
results = plain (dint (codes "n") ∷ sint (codes "s") ∷ bool (codes "z") ∷ []) (continuous (codes "DIV(-2147483648,-1,n)DIV(-7,2,n)MOD(-7,2,n)MUL(65536,65536,n)NEG(-2147483648,n)ABS(-5,n)MOV(300,s)MOD(5,0,n)NOT(0,s)MVM(-1,15,n)XOR(n,5,n)CLR(s)XIC(S:Z)OTE(z);" ∷ []) ∷ []) [] (codes "n" ∷ codes "s" ∷ codes "z" ∷ [])

abbrev pub Results : Type 0
Results = replay results (lines (codes "mode run"
    ∷ codes "cpu 15"
    ∷ codes "end"
    ∷ []))
    ≡ lines (codes "0 0 reply 31 ok"
    ∷ codes "0 1 begin T P 0"
    ∷ codes "0 2 fault minor 4/4 T P"
    ∷ codes "0 2 set n -2147483648"
    ∷ codes "0 3 set n -3"
    ∷ codes "0 4 set n -1"
    ∷ codes "0 5 fault minor 4/4 T P"
    ∷ codes "0 5 set n 0"
    ∷ codes "0 6 fault minor 4/4 T P"
    ∷ codes "0 6 set n -2147483648"
    ∷ codes "0 7 set n 5"
    ∷ codes "0 8 fault minor 4/4 T P"
    ∷ codes "0 8 set s 44"
    ∷ codes "0 9 fault minor 4/4 T P"
    ∷ codes "0 9 set n 0"
    ∷ codes "0 10 set s -1"
    ∷ codes "0 11 set n 15"
    ∷ codes "0 12 set n 10"
    ∷ codes "0 13 set s 0"
    ∷ codes "0 15 set z 1"
    ∷ codes "end 0 15 run lost 0"
    ∷ [])

-- A task keeps its flags from scan to scan; the change to Run clears them.
abbrev pub flags_at_run : Project
flags_at_run = plain (dint (codes "n") ∷ bool (codes "z") ∷ []) (continuous (codes "XIC(S:Z)OTL(z);" ∷ codes "CLR(n);" ∷ []) ∷ []) [] (codes "z" ∷ [])

abbrev pub FlagsAtRun : Type 0
FlagsAtRun = replay flags_at_run (lines (codes "mode run"
    ∷ codes "cpu 4"
    ∷ codes "mode program"
    ∷ codes "mode run"
    ∷ codes "cpu 8"
    ∷ codes "end"
    ∷ []))
    ≡ lines (codes "0 0 reply 31 ok"
    ∷ codes "0 1 begin T P 0"
    ∷ codes "0 4 reply 31 ok"
    ∷ codes "0 4 reply 31 ok"
    ∷ codes "0 5 begin T P 0"
    ∷ codes "0 10 begin T P 0"
    ∷ codes "0 12 set z 1"
    ∷ codes "end 0 12 run lost 0"
    ∷ [])
