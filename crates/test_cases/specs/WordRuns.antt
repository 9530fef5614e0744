-- Runs with I/O words, forces and modes.
use Rattle.std.specs.Prelude.{◌≡◌, [], ◌∷◌, codes, pos}
use Rattle.spec_language.specs.declared.types.Base.TheVariants.{Dint}
use Rattle.spec_tables.specs.declared.task.TaskKind.TheVariants.{Event as EventTask}
use Rattle.spec_machine.specs.Project.{Project}
use Rattle.test_cases.specs.Samples.{array, dint, continuous, program, task, plain, with_words, with_trigger, input, output, is_initially, lines, replay}

-- A force counts if forces are enabled, and the refusals of forces and words.
abbrev pub forced_words : Project
forced_words = with_words (array (codes "Local:1:I") Dint 2 ∷ array (codes "d") Dint 2 ∷ dint (codes "Local:2:O") ∷ []) (continuous (codes "COP(Local:1:I[0],d[0],2);" ∷ []) ∷ []) (output (codes "Out1") (codes "Local:2:O") ∷ input (codes "In1") (codes "Local:1:I") ∷ []) [] (codes "d[0]" ∷ codes "d[1]" ∷ [])

abbrev pub ForcedWords : Type 0
ForcedWords = replay forced_words (lines (codes "@0 force Out1 5 1 1"
    ∷ codes "@0 force enable"
    ∷ codes "@0 force Out1 0 1 1"
    ∷ codes "@0 out Out1 0"
    ∷ codes "@0 force enable"
    ∷ codes "@0 out Out1 0"
    ∷ codes "@0 force remove"
    ∷ codes "@0 out Out1 0"
    ∷ codes "@0 in Zz 0 1"
    ∷ codes "@0 in In1 2 1"
    ∷ codes "@0 in Out1 0 1"
    ∷ codes "end"
    ∷ []))
    ≡ lines (codes "0 0 reply 0 refused F1"
    ∷ codes "0 0 reply 0 refused F3"
    ∷ codes "0 0 reply 0 ok"
    ∷ codes "0 0 reply 0 ok 0"
    ∷ codes "0 0 reply 0 ok"
    ∷ codes "0 0 reply 0 ok 1"
    ∷ codes "0 0 reply 0 ok"
    ∷ codes "0 0 reply 0 ok 0"
    ∷ codes "0 0 reply 0 refused N1"
    ∷ codes "0 0 reply 0 refused N2"
    ∷ codes "0 0 reply 0 refused N3"
    ∷ codes "end 0 0 program lost 0"
    ∷ [])

-- The refusals of the mode commands, and the way out of a fault.
abbrev pub modes : Project
modes = plain (array (codes "arr") Dint 4 ∷ dint (codes "i") ∷ dint (codes "n") ∷ []) (continuous (codes "MOV(9,n)MOV(1,arr[i]);" ∷ []) ∷ []) (is_initially (codes "i") (pos 4) ∷ []) (codes "n" ∷ codes "arr[0]" ∷ [])

abbrev pub Modes : Type 0
Modes = replay modes (lines (codes "mode run"
    ∷ codes "mode run"
    ∷ codes "clear"
    ∷ codes "cpu 3"
    ∷ codes "mode program"
    ∷ codes "clear"
    ∷ codes "mode program"
    ∷ codes "end"
    ∷ []))
    ≡ lines (codes "0 0 reply 31 ok"
    ∷ codes "0 0 reply 31 refused M1"
    ∷ codes "0 0 reply 31 refused M3"
    ∷ codes "0 1 begin T P 0"
    ∷ codes "0 2 set n 9"
    ∷ codes "0 3 fault major 4/20 T P"
    ∷ codes "0 3 reply 31 refused M2"
    ∷ codes "0 3 reply 31 ok"
    ∷ codes "0 3 reply 31 refused M1"
    ∷ codes "end 0 3 program lost 0"
    ∷ [])

-- An input is forced as it arrives, and its last word triggers a task; while that is up it overlaps.
abbrev pub forced_input : Project
forced_input = with_words (array (codes "Local:1:I") Dint 2 ∷ []) (continuous [] ∷ task (codes "E") EventTask 5 (program (codes "Q") [] ∷ []) ∷ []) (with_trigger 1 (input (codes "In") (codes "Local:1:I")) ∷ []) [] (codes "Local:1:I[1]" ∷ [])

abbrev pub ForcedInput : Type 0
ForcedInput = replay forced_input (lines (codes "mode run"
    ∷ codes "@0 force In 1 255 7"
    ∷ codes "@0 force enable"
    ∷ codes "@0 in In 0 5"
    ∷ codes "@0 in In 1 -1"
    ∷ codes "cpu 1"
    ∷ codes "@0 in In 1 0"
    ∷ codes "@0 force remove"
    ∷ codes "@0 force enable"
    ∷ codes "end"
    ∷ []))
    ≡ lines (codes "0 0 reply 31 ok"
    ∷ codes "0 0 reply 0 ok"
    ∷ codes "0 0 reply 0 ok"
    ∷ codes "0 0 reply 0 ok"
    ∷ codes "0 0 reply 0 ok"
    ∷ codes "0 0 set Local:1:I[1] -249"
    ∷ codes "0 1 begin E Q 0"
    ∷ codes "0 1 reply 0 ok"
    ∷ codes "0 1 fault minor 6/3 E -"
    ∷ codes "0 1 set Local:1:I[1] 7"
    ∷ codes "0 1 reply 0 ok"
    ∷ codes "0 1 reply 0 refused F3"
    ∷ codes "end 0 1 run lost 0"
    ∷ [])

-- In Program a word is taken and triggers nothing; after a cancel in mid-test the base runs.
abbrev pub late_trigger : Project
late_trigger = with_words (dint (codes "Local:1:I") ∷ dint (codes "n") ∷ []) (continuous (codes "MOV(1,n);" ∷ []) ∷ task (codes "E") EventTask 5 (program (codes "Q") [] ∷ []) ∷ []) (with_trigger 1 (input (codes "In") (codes "Local:1:I")) ∷ []) [] (codes "n" ∷ [])

abbrev pub LateTrigger : Type 0
LateTrigger = replay late_trigger (lines (codes "@0 in In 0 5"
    ∷ codes "@0 accept P M r 0 MOV(2,n);"
    ∷ codes "@0 test P"
    ∷ codes "@0 cancel P"
    ∷ codes "@0 accept P M i 1 MOV(3,n);"
    ∷ codes "mode run"
    ∷ codes "cpu 4"
    ∷ codes "end"
    ∷ []))
    ≡ lines (codes "0 0 reply 0 ok"
    ∷ codes "0 0 reply 0 ok 1"
    ∷ codes "0 0 reply 0 ok"
    ∷ codes "0 0 reply 0 ok"
    ∷ codes "0 0 reply 0 ok 2"
    ∷ codes "0 0 reply 31 ok"
    ∷ codes "0 1 begin T P 0"
    ∷ codes "0 2 set n 1"
    ∷ codes "0 4 begin T P 0"
    ∷ codes "end 0 4 run lost 0"
    ∷ [])
