-- The conveyor: a horn before the motor starts, parts counted at an eye by an event task, and their rate by a periodic
-- one. An engineer adds a fault bit to the motor's rung while it runs.
use Rattle.std.specs.Prelude.{◌≡◌, [], ◌∷◌, codes, pos}
use Rattle.spec_base.specs.declared.limits.TheConstants.{LEAST_PRIORITY}
use Rattle.spec_tables.specs.declared.task.TaskKind.TheVariants.{Continuous, Periodic, Event as EventTask}
use Rattle.test_cases.specs.ConveyorTags.{conveyor as tags}
use Rattle.spec_machine.specs.Project.{Project}
use Rattle.test_cases.specs.Samples.{routine, routines, task, project_of, input, output, with_trigger, is_initially, lines, replay}

abbrev pub conveyor : Project
conveyor = project_of tags
    (task (codes "MainTask") Continuous LEAST_PRIORITY (
    routines (codes "Conveyor") (
    routine (codes "Main") (
    codes "[XIC(StartPB),XIC(Run)]XIC(StopPB)OTE(Run);"
    ∷ codes "XIC(Run)TON(HornT,?,?);"
    ∷ codes "XIC(Run)XIO(HornT.DN)OTE(Horn);"
    ∷ codes "XIC(HornT.DN)OTE(Motor);"
    ∷ codes "JSR(Count,0);"
    ∷ [])
    ∷ routine (codes "Count") (
    codes "XIC(Eye)CTU(Parts,?,?);"
    ∷ codes "XIC(Parts.DN)RES(Parts);"
    ∷ [])
    ∷ [])
    ∷ [])
    ∷ task (codes "Fast") (Periodic 10) 5 (
    routines (codes "Rates") (routine (codes "Main") (codes "SUB(Total,Last,Rate)MOV(Total,Last);" ∷ []) ∷ [])
    ∷ [])
    ∷ task (codes "EyeTask") EventTask 2 (
    routines (codes "EyeProg") (routine (codes "Main") (codes "XIC(Eye)ADD(Total,1,Total);" ∷ []) ∷ [])
    ∷ [])
    ∷ [])
    (with_trigger 2 (input (codes "In1") (codes "Local:1:I")) ∷ output (codes "Out1") (codes "Local:2:O") ∷ [])
    (is_initially (codes "HornT.PRE") (pos 20) ∷ is_initially (codes "Parts.PRE") (pos 100) ∷ [])
    (codes "Run" ∷ codes "Horn" ∷ codes "Motor" ∷ codes "Total" ∷ codes "Rate" ∷ [])

abbrev pub ConveyorRun : Type 0
ConveyorRun = replay conveyor (lines (codes "mode run"
    ∷ codes "cpu 1"
    ∷ codes "@0 in In1 0 0"
    ∷ codes "@0 in In1 1 3"
    ∷ codes "cpu 22"
    ∷ codes "tick 10"
    ∷ codes "cpu 4"
    ∷ codes "@1 accept Conveyor Main r 3 XIC(HornT.DN)XIO(Local:1:I.Fault.0)OTE(Motor);"
    ∷ codes "@1 test Conveyor"
    ∷ codes "tick 10"
    ∷ codes "cpu 5"
    ∷ codes "@0 in In1 1 6"
    ∷ codes "cpu 23"
    ∷ codes "@1 assemble Conveyor"
    ∷ codes "@0 out Out1 0"
    ∷ codes "tick 10"
    ∷ codes "cpu 5"
    ∷ codes "end"
    ∷ []))
    ≡ lines (codes "0 0 reply 31 ok"
    ∷ codes "0 1 begin MainTask Conveyor 0"
    ∷ codes "0 1 reply 0 ok"
    ∷ codes "0 1 reply 0 ok"
    ∷ codes "0 2 begin EyeTask EyeProg 0"
    ∷ codes "0 9 set Run 1"
    ∷ codes "0 14 set Horn 1"
    ∷ codes "10 24 begin Fast Rates 0"
    ∷ codes "10 27 reply 1 ok 1"
    ∷ codes "10 27 reply 1 ok"
    ∷ codes "20 28 begin Fast Rates 0"
    ∷ codes "20 32 begin MainTask Conveyor 1"
    ∷ codes "20 32 reply 0 ok"
    ∷ codes "20 33 begin EyeTask EyeProg 0"
    ∷ codes "20 35 set Total 1"
    ∷ codes "20 45 set Horn 0"
    ∷ codes "20 48 set Motor 1"
    ∷ codes "20 55 reply 1 ok"
    ∷ codes "20 55 reply 0 ok 1"
    ∷ codes "30 56 begin Fast Rates 0"
    ∷ codes "30 57 set Rate 1"
    ∷ codes "30 60 begin MainTask Conveyor 1"
    ∷ codes "end 30 60 run lost 0"
    ∷ [])
