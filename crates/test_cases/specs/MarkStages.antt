-- Stages and lists of stages that keep the laws of marks and of order, and those of controllers that execute too little.
use Rattle.std.specs.Prelude.{◌≡◌, List, [], ◌∷◌, map, filter_map, codes, true, false, not, Some, None, IsTrue}
use Rattle.std.specs.List.{AllByRecursion, list_all}
use Rattle.lgx_rung.specs.declared.op.Op.TheVariants.{Afi, Uid, Uie}
use Rattle.spec_machine.specs.declared.answer.Mark.{Mark}
use Rattle.spec_machine.specs.declared.event.Event.TheVariants.{Cpu}
use Rattle.spec_machine.specs.Machine.{TraceEntry, OfStep, run}
use Rattle.spec_machine.specs.Project.{Project}
use Rattle.spec_schedule.specs.Stages.{Stage, stages}
use Rattle.spec_laws.specs.Marks.{KeepsMarks}
use Rattle.spec_laws.specs.Orders.{begun_at, ends_at, executed_at, goes_aside, RunsInOrder}
use Rattle.test_cases.specs.DutyStages.{KeepsStageDuties, stage_at}
use Rattle.test_cases.specs.JournalCases.{cpu}
use Rattle.test_cases.specs.LawRuns.{one_nop, run_mode}
use Rattle.test_cases.specs.Samples.{dint, continuous, plain}

-- ---- marks

-- all other duties of one stage, but not this
abbrev pub BreaksMarks : Stage → Type 0
BreaksMarks x = KeepsStageDuties x × (KeepsMarks x → ⊥)

-- a region that opens, and one that doesn't close
abbrev pub region : Project
region = plain [] (continuous (codes "UID();" ∷ codes "AFI()UIE();" ∷ []) ∷ []) [] []

-- the steps of its scan that come after this many
abbrev pub opens : Stage
opens = stage_at (run region (run_mode ∷ cpu 1)) Cpu

abbrev pub stays_open : Stage
stays_open = stage_at (run region (run_mode ∷ cpu 3)) Cpu

-- a copy of one element
abbrev pub one_copy : Project
one_copy = plain (dint (codes "a") ∷ dint (codes "b") ∷ []) (continuous (codes "CPS(a,b,1);" ∷ []) ∷ []) [] []

abbrev pub copies : Stage
copies = stage_at (run one_copy (run_mode ∷ cpu 1)) Cpu

-- the step shows this mark
abbrev pub marked : Mark → Stage → Stage
marked mark x = record x { entry = go x.entry }
  where
    go : TraceEntry → TraceEntry
    go (OfStep m) = OfStep (record m { mark = mark })
    go e = e

-- ---- order

-- a scan of both rungs, with the change to Run before it
abbrev pub whole_scan : List Stage
whole_scan = stages region (run_mode ∷ cpu 5)

-- It begins at its second stage and ends at its last; in between it goes nowhere aside, and executes the three instructions in
-- order.
pub record IsInOrder : Type 0 where
  pub begins : map (begun_at 0) whole_scan ≡ None ∷ Some 0 ∷ None ∷ None ∷ None ∷ None ∷ []
  pub ends : map (ends_at 0) whole_scan ≡ false ∷ false ∷ false ∷ false ∷ false ∷ true ∷ []
  pub straight : IsTrue (list_all (λ x. not (goes_aside 0 x)) whole_scan)
  pub executed : map (λ i. i.op) (filter_map (executed_at 0) whole_scan) ≡ Uid ∷ Afi ∷ Uie ∷ []

-- the steps of a scan of one instruction
abbrev pub begins : Stage
begins = stage_at (run one_nop (run_mode ∷ [])) Cpu

abbrev pub executes : Stage
executes = stage_at begins.after Cpu

abbrev pub leaves : Stage
leaves = stage_at executes.after Cpu

-- a controller that leaves each program at once, and one that executes its instruction twice
abbrev pub leaves_at_once : List Stage
leaves_at_once = begins ∷ record leaves { before = begins.after } ∷ []

abbrev pub executes_twice : List Stage
executes_twice = begins ∷ record executes { after = executes.before } ∷ executes ∷ leaves ∷ []

-- each stage keeps its duties, but the list isn't in order
abbrev pub BreaksOrder : List Stage → Type 0
BreaksOrder xs = AllByRecursion (λ x. KeepsStageDuties x × KeepsMarks x) xs × (RunsInOrder 0 xs → ⊥)
