-- The law of order: a scan executes the rungs that were selected at its begin, each instruction once and in the order of the
-- text, unless it goes elsewhere by a jump, a call, a return or an end.
use Rattle.std.specs.Prelude.{◌≡◌, ℕ, List, ◌∷◌, ◌++◌, flat_map, filter_map, Bool, true, false, not, ◌&&◌, nat_eq, if◌then◌else◌, Option, Some, None, is_none, IsTrue}
use Rattle.std.specs.List.{list_all}
use Rattle.lgx_rung.specs.Tree.{instructions}
use Rattle.lgx_rung.specs.declared.ins.Ins.{Ins}
use Rattle.lgx_rung.specs.declared.op.Op.{Op}
use Rattle.lgx_rung.specs.declared.op.Op.TheVariants.{Jsr, Ret, Tnd, Jmp}
use Rattle.spec_scan.specs.Position.{ProgramRungs, routine_rungs}
use Rattle.spec_machine.specs.declared.answer.What.{What}
use Rattle.spec_machine.specs.declared.answer.What.TheVariants.{Began, Left}
use Rattle.spec_machine.specs.declared.event.Event.{Event}
use Rattle.spec_machine.specs.Edits.{book_at, selected}
use Rattle.spec_machine.specs.Machine.{TraceEntry, OfStep}
use Rattle.spec_machine.specs.Project.{Project}
use Rattle.spec_schedule.specs.Stages.{Stage, stages}
use Rattle.spec_uses.specs.Changes.{executed_last}
use Rattle.spec_laws.specs.Marks.{condition_at}

-- the program that task t begins at a stage
abbrev pub begun_at : ℕ → Stage → Option ℕ
begun_at t x = go x.entry
  where
    by_what : What → Option ℕ
    by_what (Began u n v) = if nat_eq u t then Some n else None
    by_what _ = None

    go : TraceEntry → Option ℕ
    go (OfStep m) = by_what m.what
    go _ = None

-- task t ends its scan
abbrev pub ends_at : ℕ → Stage → Bool
ends_at t x = go x.entry
  where
    by_what : What → Bool
    by_what (Left u n ended) = nat_eq u t && ended
    by_what _ = false

    go : TraceEntry → Bool
    go (OfStep m) = by_what m.what
    go _ = false

-- the instruction that task t executes
abbrev pub executed_at : ℕ → Stage → Option Ins
executed_at t x = executed_last t None x

-- With a true condition these go on elsewhere than behind themselves.
abbrev pub leads_aside : Op → Bool
leads_aside Jsr = true
leads_aside Ret = true
leads_aside Tnd = true
leads_aside Jmp = true
leads_aside _ = false

abbrev pub is_aside : Option Ins → Bool → Bool
is_aside None on = false
is_aside (Some i) on = leads_aside i.op && on

abbrev pub goes_aside : ℕ → Stage → Bool
goes_aside t x = is_aside (executed_at t x) (condition_at x.before t)

-- A scan of task t in a list of stages, from its begin to its end. No other begin of the task comes between the two, and it never
-- goes aside.
pub record StraightScan (t : ℕ) (xs : List Stage) : Type 0 where
  pub before : List Stage
  pub begin : Stage
  pub during : List Stage
  pub end : Stage
  pub after : List Stage
  pub places : xs ≡ before ++ begin ∷ (during ++ end ∷ after)
  pub program : ℕ
  pub begins : begun_at t begin ≡ Some program
  pub ends : ends_at t end ≡ true
  pub one_begin : IsTrue (list_all (λ x. is_none (begun_at t x)) during)
  pub straight : IsTrue (list_all (λ x. not (goes_aside t x)) during)

-- the instructions of a program's main routine
abbrev pub main_instructions : ProgramRungs → List Ins
main_instructions rungs = flat_map instructions (routine_rungs rungs rungs.main)

-- it executes those of the main routine as it was selected
abbrev pub RunsInOrder : ℕ → List Stage → Type 0
RunsInOrder t xs =
    (scan : StraightScan t xs) → filter_map (executed_at t) scan.during ≡ main_instructions (selected (book_at scan.begin.before.books scan.program))

abbrev pub ScansRunInOrder : Project → Type 0
ScansRunInOrder p = (journal : List Event) (t : ℕ) → RunsInOrder t (stages p journal)
