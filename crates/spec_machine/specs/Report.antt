-- The lines of the report.
use Rattle.std.specs.Prelude.{ℕ, ◌+◌, ◌-◌, List, [], ◌∷◌, ◌++◌, map, length, drop, take, if◌then◌else◌}
use Rattle.spec_base.specs.declared.limits.TheConstants.{MAX_REPORT_LINES}
use Rattle.lgx_num.specs.Number.{int_eq}
use Rattle.lgx_num.specs.Image.{number}
use Rattle.spec_machine.specs.declared.reply.Mode.{Mode}
use Rattle.spec_machine.specs.declared.answer.What.{What}
use Rattle.spec_machine.specs.declared.answer.What.TheVariants.{Began}
use Rattle.spec_machine.specs.declared.line.Line.{Line}
use Rattle.spec_machine.specs.declared.line.Line.TheVariants.{Begin, Fault, Reply, Set}
use Rattle.spec_machine.specs.declared.event.Event.{Event}
-- the number of processor steps
pub use Rattle.spec_machine.specs.Events.{is_step, steps_of}
use Rattle.spec_machine.specs.Project.{Project, Watch}
use Rattle.spec_machine.specs.State.{State, start}
use Rattle.spec_machine.specs.Machine.{TraceEntry, OfStep, OfTick, OfAction, step}

-- a line, stamped with the tick and the count of processor steps that its event left
pub record Stamped : Type 0 where
  pub tick : ℕ
  pub step : ℕ
  pub line : Line

-- a processor step that began a scan has a line
abbrev pub begin_lines : What → List Line
begin_lines (Began t n version) = Begin t n version ∷ []
begin_lines _ = []

-- so has each action; a tick has none of its own
abbrev pub answer_lines : TraceEntry → List Line
answer_lines (OfStep m) = begin_lines m.what
answer_lines (OfTick r) = []
answer_lines (OfAction lane action o) = Reply lane o.reply ∷ []

-- each watched place whose value changed, in watch order, where the first is number n
abbrev pub set_lines : ℕ → List Watch → List ℕ → List ℕ → List Line
set_lines n [] old new = []
set_lines n (w ∷ ws) old new =
    (if int_eq (number old w.place) (number new w.place) then [] else Set n (number new w.place) ∷ []) ++ set_lines (n + 1) ws old new

-- the lines of one event between two states: its answer, the faults that it recorded, and the watched places
abbrev pub event_lines : List Watch → State → State → TraceEntry → List Line
event_lines watches old new entry =
    answer_lines entry ++ (map Fault (drop (length old.faults) new.faults) ++ set_lines 0 watches old.image new.image)

abbrev pub stamp : ℕ → ℕ → List Line → List Stamped
stamp tick step lines = map (λ l. record { tick = tick; step = step; line = l }) lines

-- the lines of these events from a state that n processor steps led to
abbrev pub lines_from : List Watch → State → ℕ → List Event → List Stamped
lines_from watches s n [] = []
lines_from watches s n (e ∷ es) =
    let x = step s e in
    let n' = (if is_step e then n + 1 else n) in
    stamp x.state.tick n' (event_lines watches s x.state x.answer) ++ lines_from watches x.state n' es

-- all lines of a journal
abbrev pub report_lines : Project → List Event → List Stamped
report_lines project journal = lines_from project.watches (start project) 0 journal

-- the kept lines, and what the end line says
pub record Report : Type 0 where
  pub lines : List Stamped
  pub tick : ℕ
  pub step : ℕ
  pub mode : Mode
  pub lost : ℕ

abbrev pub report_of : List Stamped → State → ℕ → Report
report_of lines final step =
    record { lines = take MAX_REPORT_LINES lines; tick = final.tick; step = step; mode = final.mode; lost = length lines - MAX_REPORT_LINES }
