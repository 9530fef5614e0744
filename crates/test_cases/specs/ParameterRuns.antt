-- Runs of calls that hand numbers over.
use Rattle.std.specs.Prelude.{◌≡◌, ℕ, List, [], ◌∷◌, codes, pos}
use Rattle.spec_base.specs.declared.limits.TheConstants.{LEAST_PRIORITY}
use Rattle.spec_language.specs.declared.types.Base.TheVariants.{Dint}
use Rattle.spec_tables.specs.declared.task.TaskKind.TheVariants.{Continuous}
use Rattle.spec_language.specs.Declarations.{Entry}
use Rattle.spec_machine.specs.Project.{Project}
use Rattle.test_cases.specs.Samples.{array, dint, sint, Initial, routines, routine, task, plain, is_initially, lines, replay}

-- a program of the routines M, the main one, and N, by the texts of their rungs
abbrev pub calling : List Entry → List (List ℕ) → List (List ℕ) → List Initial → List (List ℕ) → Project
calling tags main called initials watches =
    let program = routines (codes "P") (routine (codes "M") main ∷ routine (codes "N") called ∷ []) in
    plain tags (task (codes "T") Continuous LEAST_PRIORITY (program ∷ []) ∷ []) initials watches

-- Two numbers are handed over, and one comes back.
abbrev pub there_and_back : Project
there_and_back = calling (dint (codes "a") ∷ dint (codes "r") ∷ dint (codes "x") ∷ dint (codes "y") ∷ [])
    (codes "JSR(N,2,a,4,r);" ∷ []) (codes "SBR(x,y)ADD(x,y,x);" ∷ codes "RET(x);" ∷ [])
    (is_initially (codes "a") (pos 5) ∷ []) (codes "x" ∷ codes "y" ∷ codes "r" ∷ [])

abbrev pub ThereAndBack : Type 0
ThereAndBack = replay there_and_back (lines (codes "mode run"
    ∷ codes "cpu 7"
    ∷ codes "end"
    ∷ []))
    ≡ lines (codes "0 0 reply 31 ok"
    ∷ codes "0 1 begin T P 0"
    ∷ codes "0 3 set x 5"
    ∷ codes "0 3 set y 4"
    ∷ codes "0 4 set x 9"
    ∷ codes "0 5 set r 9"
    ∷ codes "end 0 7 run lost 0"
    ∷ [])

-- An SBR that has more operands than there are inputs is at fault, and so is an RET that has fewer than there are
-- returns. Neither stores anything.
abbrev pub too_few_inputs : Project
too_few_inputs = calling (dint (codes "a") ∷ dint (codes "x") ∷ dint (codes "y") ∷ [])
    (codes "JSR(N,1,a);" ∷ []) (codes "SBR(x,y);" ∷ []) (is_initially (codes "a") (pos 5) ∷ []) (codes "x" ∷ codes "y" ∷ [])

abbrev pub TooFewInputs : Type 0
TooFewInputs = replay too_few_inputs (lines (codes "mode run"
    ∷ codes "cpu 4"
    ∷ codes "end"
    ∷ []))
    ≡ lines (codes "0 0 reply 31 ok"
    ∷ codes "0 1 begin T P 0"
    ∷ codes "0 3 fault major 4/31 T P"
    ∷ codes "end 0 4 faulted lost 0"
    ∷ [])

abbrev pub too_few_returned : Project
too_few_returned = calling (dint (codes "r") ∷ dint (codes "s") ∷ [])
    (codes "JSR(N,0,r,s);" ∷ []) (codes "RET(7);" ∷ []) [] (codes "r" ∷ codes "s" ∷ [])

abbrev pub TooFewReturned : Type 0
TooFewReturned = replay too_few_returned (lines (codes "mode run"
    ∷ codes "cpu 4"
    ∷ codes "end"
    ∷ []))
    ≡ lines (codes "0 0 reply 31 ok"
    ∷ codes "0 1 begin T P 0"
    ∷ codes "0 3 fault major 4/31 T P"
    ∷ codes "end 0 4 faulted lost 0"
    ∷ [])

-- A subscript out of range comes before the number of operands.
abbrev pub subscript_first : Project
subscript_first = calling (array (codes "arr") Dint 4 ∷ dint (codes "i") ∷ [])
    (codes "JSR(N);" ∷ []) (codes "SBR(i,arr[i]);" ∷ []) (is_initially (codes "i") (pos 4) ∷ []) []

abbrev pub SubscriptFirst : Type 0
SubscriptFirst = replay subscript_first (lines (codes "mode run"
    ∷ codes "cpu 3"
    ∷ codes "end"
    ∷ []))
    ≡ lines (codes "0 0 reply 31 ok"
    ∷ codes "0 1 begin T P 0"
    ∷ codes "0 3 fault major 4/20 T P"
    ∷ codes "end 0 3 faulted lost 0"
    ∷ [])

-- Inputs and operands that are left over are ignored, the low bits are stored, and the main routine has no returns.
abbrev pub left_over : Project
left_over = calling (sint (codes "s") ∷ dint (codes "r") ∷ [])
    (codes "JSR(N,3,300,7,8,r);" ∷ codes "RET(1);" ∷ [])
    (codes "SBR(s)RET(s,9,9);" ∷ [])
    [] (codes "s" ∷ codes "r" ∷ [])

abbrev pub LeftOver : Type 0
LeftOver = replay left_over (lines (codes "mode run"
    ∷ codes "cpu 7"
    ∷ codes "end"
    ∷ []))
    ≡ lines (codes "0 0 reply 31 ok"
    ∷ codes "0 1 begin T P 0"
    ∷ codes "0 3 set s 44"
    ∷ codes "0 4 set r 44"
    ∷ codes "end 0 7 run lost 0"
    ∷ [])

-- A routine that ends without an RET gives nothing back.
abbrev pub nothing_back : Project
nothing_back = calling (dint (codes "s") ∷ dint (codes "r") ∷ [])
    (codes "JSR(N,1,5,r);" ∷ [])
    (codes "SBR(s)TND();" ∷ [])
    [] (codes "s" ∷ codes "r" ∷ [])

abbrev pub NothingBack : Type 0
NothingBack = replay nothing_back (lines (codes "mode run"
    ∷ codes "cpu 6"
    ∷ codes "end"
    ∷ []))
    ≡ lines (codes "0 0 reply 31 ok"
    ∷ codes "0 1 begin T P 0"
    ∷ codes "0 3 set s 5"
    ∷ codes "end 0 6 run lost 0"
    ∷ [])

-- The place of a return is the one that its subscript gave at the call.
abbrev pub place_at_call : Project
place_at_call = calling (array (codes "arr") Dint 4 ∷ dint (codes "i") ∷ [])
    (codes "JSR(N,0,arr[i]);" ∷ [])
    (codes "MOV(2,i)RET(7);" ∷ [])
    (is_initially (codes "i") (pos 1) ∷ []) (codes "i" ∷ codes "arr[1]" ∷ codes "arr[2]" ∷ [])

abbrev pub PlaceAtCall : Type 0
PlaceAtCall = replay place_at_call (lines (codes "mode run"
    ∷ codes "cpu 6"
    ∷ codes "end"
    ∷ []))
    ≡ lines (codes "0 0 reply 31 ok"
    ∷ codes "0 1 begin T P 0"
    ∷ codes "0 3 set i 2"
    ∷ codes "0 4 set arr[1] 7"
    ∷ codes "end 0 6 run lost 0"
    ∷ [])

-- All places are worked out, and all numbers read, before the first is stored.
abbrev pub read_first : Project
read_first = calling (array (codes "arr") Dint 4 ∷ dint (codes "i") ∷ dint (codes "x") ∷ dint (codes "y") ∷ [])
    (codes "JSR(N,2,3,7,y,x);" ∷ [])
    (codes "SBR(i,arr[i])RET(x,y);" ∷ [])
    (is_initially (codes "i") (pos 1) ∷ is_initially (codes "x") (pos 10) ∷ is_initially (codes "y") (pos 20) ∷ []) (codes "i" ∷ codes "arr[1]" ∷ codes "arr[3]" ∷ codes "x" ∷ codes "y" ∷ [])

abbrev pub ReadFirst : Type 0
ReadFirst = replay read_first (lines (codes "mode run"
    ∷ codes "cpu 6"
    ∷ codes "end"
    ∷ []))
    ≡ lines (codes "0 0 reply 31 ok"
    ∷ codes "0 1 begin T P 0"
    ∷ codes "0 3 set i 3"
    ∷ codes "0 3 set arr[1] 7"
    ∷ codes "0 4 set x 20"
    ∷ codes "0 4 set y 10"
    ∷ codes "end 0 6 run lost 0"
    ∷ [])

-- Eight numbers are handed over, and eight come back.
abbrev pub most_parameters : Project
most_parameters = calling (array (codes "x") Dint 8 ∷ array (codes "r") Dint 8 ∷ [])
    (codes "JSR(N,8,1,2,3,4,5,6,7,8,r[0],r[1],r[2],r[3],r[4],r[5],r[6],r[7]);" ∷ [])
    (codes "SBR(x[0],x[1],x[2],x[3],x[4],x[5],x[6],x[7])RET(x[7],x[6],x[5],x[4],x[3],x[2],x[1],x[0]);" ∷ [])
    [] (codes "x[0]" ∷ codes "x[7]" ∷ codes "r[0]" ∷ codes "r[7]" ∷ [])

abbrev pub MostParameters : Type 0
MostParameters = replay most_parameters (lines (codes "mode run"
    ∷ codes "cpu 6"
    ∷ codes "end"
    ∷ []))
    ≡ lines (codes "0 0 reply 31 ok"
    ∷ codes "0 1 begin T P 0"
    ∷ codes "0 3 set x[0] 1"
    ∷ codes "0 3 set x[7] 8"
    ∷ codes "0 4 set r[0] 8"
    ∷ codes "0 4 set r[7] 1"
    ∷ codes "end 0 6 run lost 0"
    ∷ [])

-- A routine that calls itself until it is handed 0: each call in progress keeps its own return.
abbrev pub recursion : Project
recursion = calling (dint (codes "x") ∷ dint (codes "y") ∷ dint (codes "r") ∷ [])
    (codes "JSR(N,1,2,r);" ∷ [])
    (codes "SBR(x);" ∷ codes "GRT(x,0)SUB(x,1,x)JSR(N,1,x,y);" ∷ codes "ADD(y,1,y)RET(y);" ∷ [])
    [] (codes "x" ∷ codes "y" ∷ codes "r" ∷ [])

abbrev pub Recursion : Type 0
Recursion = replay recursion (lines (codes "mode run"
    ∷ codes "cpu 24"
    ∷ codes "end"
    ∷ []))
    ≡ lines (codes "0 0 reply 31 ok"
    ∷ codes "0 1 begin T P 0"
    ∷ codes "0 3 set x 2"
    ∷ codes "0 5 set x 1"
    ∷ codes "0 9 set x 0"
    ∷ codes "0 15 set y 1"
    ∷ codes "0 18 set y 2"
    ∷ codes "0 21 set y 3"
    ∷ codes "0 22 set r 3"
    ∷ codes "end 0 24 run lost 0"
    ∷ [])
