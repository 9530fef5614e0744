-- Runs with online edits.
use Rattle.std.specs.Prelude.{◌≡◌, [], ◌∷◌, codes}
use Rattle.spec_machine.specs.Project.{Project}
use Rattle.test_cases.specs.Samples.{bool, dint, continuous, plain, lines, replay}

-- two rungs that write one tag
abbrev pub two_moves : Project
two_moves = plain (dint (codes "n") ∷ []) (continuous (codes "MOV(1,n);" ∷ codes "MOV(2,n);" ∷ []) ∷ []) [] (codes "n" ∷ [])

-- The merged rungs that are selected in mid-scan run from the next scan on, and so does the base again.
abbrev pub SelectedAtBegin : Type 0
SelectedAtBegin = replay two_moves (lines (codes "mode run"
    ∷ codes "cpu 2"
    ∷ codes "@0 accept P M r 1 MOV(3,n);"
    ∷ codes "@0 test P"
    ∷ codes "cpu 5"
    ∷ codes "@0 untest P"
    ∷ codes "cpu 2"
    ∷ codes "end"
    ∷ []))
    ≡ lines (codes "0 0 reply 31 ok"
    ∷ codes "0 1 begin T P 0"
    ∷ codes "0 2 set n 1"
    ∷ codes "0 2 reply 0 ok 1"
    ∷ codes "0 2 reply 0 ok"
    ∷ codes "0 3 set n 2"
    ∷ codes "0 5 begin T P 1"
    ∷ codes "0 6 set n 1"
    ∷ codes "0 7 set n 3"
    ∷ codes "0 7 reply 0 ok"
    ∷ codes "0 9 begin T P 0"
    ∷ codes "end 0 9 run lost 0"
    ∷ [])

-- An accept while the program is tested leaves it so: the new merged rungs run from the next begin on.
abbrev pub AcceptWhileTesting : Type 0
AcceptWhileTesting = replay two_moves (lines (codes "mode run"
    ∷ codes "cpu 2"
    ∷ codes "@0 accept P M r 1 MOV(3,n);"
    ∷ codes "@0 test P"
    ∷ codes "cpu 4"
    ∷ codes "@0 accept P M r 0 MOV(8,n);"
    ∷ codes "cpu 5"
    ∷ codes "end"
    ∷ []))
    ≡ lines (codes "0 0 reply 31 ok"
    ∷ codes "0 1 begin T P 0"
    ∷ codes "0 2 set n 1"
    ∷ codes "0 2 reply 0 ok 1"
    ∷ codes "0 2 reply 0 ok"
    ∷ codes "0 3 set n 2"
    ∷ codes "0 5 begin T P 1"
    ∷ codes "0 6 set n 1"
    ∷ codes "0 6 reply 0 ok 2"
    ∷ codes "0 7 set n 3"
    ∷ codes "0 9 begin T P 2"
    ∷ codes "0 10 set n 8"
    ∷ codes "0 11 set n 3"
    ∷ codes "end 0 11 run lost 0"
    ∷ [])

-- What is accepted is one lane's until it is cancelled; a refused accept leaves nothing.
abbrev pub owners : Project
owners = plain (dint (codes "n") ∷ bool (codes "x") ∷ []) (continuous (codes "MOV(1,n);" ∷ codes "MOV(2,n);" ∷ []) ∷ []) [] (codes "n" ∷ [])

abbrev pub Owners : Type 0
Owners = replay owners (lines (codes "mode run"
    ∷ codes "@0 cancel P"
    ∷ codes "@0 accept P M r 0 XIC(zz)OTE(x);"
    ∷ codes "@0 accept P M r 0 MOV(5,n);"
    ∷ codes "@1 accept P M r 1 MOV(6,n);"
    ∷ codes "@1 cancel P"
    ∷ codes "@0 cancel P"
    ∷ codes "@1 accept P M r 1 MOV(6,n);"
    ∷ codes "cpu 3"
    ∷ codes "end"
    ∷ []))
    ≡ lines (codes "0 0 reply 31 ok"
    ∷ codes "0 0 reply 0 refused E10"
    ∷ codes "0 0 reply 0 refused E8 C4 0 0"
    ∷ codes "0 0 reply 0 ok 1"
    ∷ codes "0 0 reply 1 refused E3 0"
    ∷ codes "0 0 reply 1 refused E3 0"
    ∷ codes "0 0 reply 0 ok"
    ∷ codes "0 0 reply 1 ok 2"
    ∷ codes "0 1 begin T P 0"
    ∷ codes "0 2 set n 1"
    ∷ codes "0 3 set n 2"
    ∷ codes "end 0 3 run lost 0"
    ∷ [])

-- A rung that a jump needs can't be deleted.
abbrev pub lost_label : Project
lost_label = plain [] (continuous (codes "JMP(l);" ∷ codes "LBL(l)NOP();" ∷ []) ∷ []) [] []

abbrev pub LostLabel : Type 0
LostLabel = replay lost_label (lines (codes "@0 accept P M d 1"
    ∷ codes "end"
    ∷ []))
    ≡ lines (codes "0 0 reply 0 refused E8 C12 0 0"
    ∷ codes "end 0 0 program lost 0"
    ∷ [])

-- Each of the other causes; an edit is taken in Program too.
abbrev pub EditRefusals : Type 0
EditRefusals = replay two_moves (lines (codes "@0 accept Q M r 0 NOP();"
    ∷ codes "@0 accept P Z r 0 NOP();"
    ∷ codes "@0 accept P M r 2 NOP();"
    ∷ codes "@0 accept P M r 0 NOP(); | d 0"
    ∷ codes "@0 accept P M i 2 XIQ();"
    ∷ codes "@0 untest P"
    ∷ codes "@0 accept P M r 0 NOP();"
    ∷ codes "@0 untest P"
    ∷ codes "@0 test P"
    ∷ codes "@0 test P"
    ∷ codes "@0 accept P M r 1 NOP();"
    ∷ codes "@0 assemble P"
    ∷ codes "@1 cancel P"
    ∷ codes "end"
    ∷ []))
    ≡ lines (codes "0 0 reply 0 refused E1"
    ∷ codes "0 0 reply 0 refused E2"
    ∷ codes "0 0 reply 0 refused E5 0"
    ∷ codes "0 0 reply 0 refused E6 1"
    ∷ codes "0 0 reply 0 refused E7 0 T2 0"
    ∷ codes "0 0 reply 0 refused E10"
    ∷ codes "0 0 reply 0 ok 1"
    ∷ codes "0 0 reply 0 refused E12"
    ∷ codes "0 0 reply 0 ok"
    ∷ codes "0 0 reply 0 refused E11"
    ∷ codes "0 0 reply 0 ok 2"
    ∷ codes "0 0 reply 0 ok"
    ∷ codes "0 0 reply 1 refused E10"
    ∷ codes "end 0 0 program lost 0"
    ∷ [])

-- Insertions are in the order of acceptance; numbers go on after an assemble and a cancel.
abbrev pub MergedOrder : Type 0
MergedOrder = replay two_moves (lines (codes "@0 accept P M i 1 MOV(7,n); | i 1 MOV(8,n); | d 0"
    ∷ codes "@0 accept P M i 1 MOV(9,n);"
    ∷ codes "@0 test P"
    ∷ codes "mode run"
    ∷ codes "cpu 5"
    ∷ codes "@0 assemble P"
    ∷ codes "@0 accept P M r 0 MOV(1,n);"
    ∷ codes "@0 cancel P"
    ∷ codes "cpu 3"
    ∷ codes "@0 accept P M d 3"
    ∷ codes "@0 accept P M d 4"
    ∷ codes "end"
    ∷ []))
    ≡ lines (codes "0 0 reply 0 ok 1"
    ∷ codes "0 0 reply 0 ok 2"
    ∷ codes "0 0 reply 0 ok"
    ∷ codes "0 0 reply 31 ok"
    ∷ codes "0 1 begin T P 2"
    ∷ codes "0 2 set n 7"
    ∷ codes "0 3 set n 8"
    ∷ codes "0 4 set n 9"
    ∷ codes "0 5 set n 2"
    ∷ codes "0 5 reply 0 ok"
    ∷ codes "0 5 reply 0 ok 3"
    ∷ codes "0 5 reply 0 ok"
    ∷ codes "0 7 begin T P 2"
    ∷ codes "0 8 set n 7"
    ∷ codes "0 8 reply 0 ok 4"
    ∷ codes "0 8 reply 0 refused E5 0"
    ∷ codes "end 0 8 run lost 0"
    ∷ [])

-- Edits between all steps: a scan runs the rungs that were selected at its beginning, whatever is assembled meanwhile.
abbrev pub EditsInMidScan : Type 0
EditsInMidScan = replay two_moves (lines (codes "mode run"
    ∷ codes "cpu 1"
    ∷ codes "@0 accept P M r 0 MOV(0,n);"
    ∷ codes "@0 test P"
    ∷ codes "@0 assemble P"
    ∷ codes "cpu 1"
    ∷ codes "@0 accept P M r 0 MOV(1,n);"
    ∷ codes "@0 test P"
    ∷ codes "@0 assemble P"
    ∷ codes "cpu 1"
    ∷ codes "@0 accept P M r 0 MOV(2,n);"
    ∷ codes "@0 test P"
    ∷ codes "@0 assemble P"
    ∷ codes "cpu 1"
    ∷ codes "@0 accept P M r 0 MOV(3,n);"
    ∷ codes "@0 test P"
    ∷ codes "@0 assemble P"
    ∷ codes "cpu 1"
    ∷ codes "@0 accept P M r 0 MOV(4,n);"
    ∷ codes "@0 test P"
    ∷ codes "@0 assemble P"
    ∷ codes "cpu 1"
    ∷ codes "@0 accept P M r 0 MOV(5,n);"
    ∷ codes "@0 test P"
    ∷ codes "@0 assemble P"
    ∷ codes "cpu 1"
    ∷ codes "@0 accept P M r 0 MOV(6,n);"
    ∷ codes "@0 test P"
    ∷ codes "@0 assemble P"
    ∷ codes "end"
    ∷ []))
    ≡ lines (codes "0 0 reply 31 ok"
    ∷ codes "0 1 begin T P 0"
    ∷ codes "0 1 reply 0 ok 1"
    ∷ codes "0 1 reply 0 ok"
    ∷ codes "0 1 reply 0 ok"
    ∷ codes "0 2 set n 1"
    ∷ codes "0 2 reply 0 ok 2"
    ∷ codes "0 2 reply 0 ok"
    ∷ codes "0 2 reply 0 ok"
    ∷ codes "0 3 set n 2"
    ∷ codes "0 3 reply 0 ok 3"
    ∷ codes "0 3 reply 0 ok"
    ∷ codes "0 3 reply 0 ok"
    ∷ codes "0 4 reply 0 ok 4"
    ∷ codes "0 4 reply 0 ok"
    ∷ codes "0 4 reply 0 ok"
    ∷ codes "0 5 begin T P 4"
    ∷ codes "0 5 reply 0 ok 5"
    ∷ codes "0 5 reply 0 ok"
    ∷ codes "0 5 reply 0 ok"
    ∷ codes "0 6 set n 3"
    ∷ codes "0 6 reply 0 ok 6"
    ∷ codes "0 6 reply 0 ok"
    ∷ codes "0 6 reply 0 ok"
    ∷ codes "0 7 set n 2"
    ∷ codes "0 7 reply 0 ok 7"
    ∷ codes "0 7 reply 0 ok"
    ∷ codes "0 7 reply 0 ok"
    ∷ codes "end 0 7 run lost 0"
    ∷ [])
