-- An event has few lines, so an empty log keeps them, and a report has few for its events.
use Rattle.std.proofs.Common.{◌≡◌, ℕ, zero, suc, ◌+◌, ◌*◌, ◌≤◌, Bool, true, false, cond, List, [], ◌∷◌, ◌++◌, length, map, drop, Option, Some, None, sym, ap, ◌∙◌, subst, arith, length-append}
use Rattle.std.specs.Prelude.{nat_eq, if◌then◌else◌}
use Rattle.std.specs.Int.{bit_at}
use Rattle.std.proofs.lemmas.Bool.{leb-true}
use Rattle.std.proofs.lemmas.List.{length-map, take_all}
use Rattle.std.proofs.Math.Seq.{drop-append_seam}
use Rattle.spec_base.specs.declared.limits.TheConstants.{MAX_TASKS, MAX_REPORT_LINES}
use Rattle.spec_tables.specs.declared.fault.TheConstants.{PERIODIC_OVERLAP}
use Rattle.spec_tables.specs.declared.fault.Fault.{Fault}
use Rattle.spec_tables.specs.declared.fault.Severity.TheVariants.{Minor}
use Rattle.spec_machine.specs.declared.answer.What.{What}
use Rattle.spec_machine.specs.declared.answer.What.TheVariants.{Idle, Began, Ran, Copied, Left}
use Rattle.lgx_num.specs.Image.{number}
use Rattle.spec_machine.specs.declared.line.Line.{Line}
use Rattle.spec_machine.specs.declared.line.Line.TheVariants.{Fault as FaultLine}
use Rattle.spec_machine.specs.declared.limits.TheConstants.{MAX_WATCHES}
use Rattle.spec_machine.specs.declared.event.Event.{Event}
use Rattle.spec_machine.specs.Project.{Project, Watch}
use Rattle.spec_machine.specs.ValidProject.{IsValidProject}
use Rattle.spec_machine.specs.State.{State}
use Rattle.spec_machine.specs.Releases.{task_fault}
use Rattle.spec_machine.specs.TickLaws.{tasks_in, watchdog_fault}
use Rattle.spec_machine.specs.Machine.{TraceEntry, OfStep, OfTick, OfAction, step, run}
use Rattle.spec_machine.specs.Report.{Stamped, is_step, steps_of, begin_lines, answer_lines, set_lines, event_lines, lines_from}
use Rattle.spec_reach.proofs.Reached.{run_more}
use Rattle.spec_reach.proofs.Sizes.{runs_keep_sizes}
use Rattle.lgx_watch.specs.JournalLines.{lines_of_event}
use Rattle.lgx_watch.proofs.Pushes.{keeps_the_first, same_kept}
use Rattle.lgx_steps.proofs.Making.{few-tasks}
use Rattle.lgx_record.specs.declared.lines.TheConstants.{MAX_EVENT_LINES}
use Rattle.lgx_record.specs.Faults.{faults_in, told_faults}
use Rattle.lgx_record.specs.Changes.{numbers_at}
use Rattle.lgx_record.specs.EventLines.{EventsHaveFewLines}
use Rattle.lgx_record.specs.Extends.{KeepsAnEvent, more_lines}
use Rattle.lgx_record.proofs.Faults.{answers_tell_faults}
use Rattle.lgx_record.proofs.Changed.{set_lines-changes, few_changes}

-- ---- faults

one_or_none : (b : Bool) (n : ℕ) → length (let tasks : List ℕ = cond b (n ∷ []) [] in tasks) ≤ 1
one_or_none true n = omega arith
one_or_none false n = omega arith

few_in_mask : (mask n : ℕ) → length (tasks_in mask n) ≤ n
few_in_mask mask zero = omega arith
few_in_mask mask (suc n) =
    let rest = few_in_mask mask n in
    let one = one_or_none (nat_eq (bit_at mask n) 1) n in
    let all = length-append (tasks_in mask n) (if nat_eq (bit_at mask n) 1 then n ∷ [] else []) in
    omega arith

one_watchdog : (s : State) (o : Option ℕ) → length (watchdog_fault s o) ≤ 1
one_watchdog s None = omega arith
one_watchdog s (Some t) = omega arith

one_fault : (o : Option Fault) → length (faults_in o) ≤ 1
one_fault None = omega arith
one_fault (Some f) = omega arith

few_faults : (s : State) (x : TraceEntry) → length s.table.defs ≤ MAX_TASKS → length (told_faults s x) ≤ MAX_TASKS + 1
few_faults s (OfStep moment) few = let one = one_fault moment.fault in omega arith
few_faults s (OfTick report) few =
    let tasks = tasks_in report.overlapped (length s.table.defs) in
    let one = one_watchdog s report.watchdog in
    let rest = few_in_mask report.overlapped (length s.table.defs) in
    let many = length-map tasks (task_fault s Minor PERIODIC_OVERLAP) in
    let all = length-append (watchdog_fault s report.watchdog) (map (task_fault s Minor PERIODIC_OVERLAP) tasks) in
    omega arith
few_faults s (OfAction lane action outcome) few = let one = one_fault outcome.fault in omega arith

-- what an event put after the faults before it
pub new_faults : (s : State) (e : Event) → drop (length s.faults) (step s e).state.faults ≡ told_faults (step s e).state (step s e).answer
new_faults s e = ap (λ (fs : List Fault). drop (length s.faults) fs) (answers_tell_faults s e) ∙ drop-append_seam s.faults (told_faults (step s e).state (step s e).answer)

-- ---- lines

one_begin : (w : What) → length (begin_lines w) ≤ 1
one_begin Idle = omega arith
one_begin (Began t n version) = omega arith
one_begin (Ran t n) = omega arith
one_begin (Copied t n) = omega arith
one_begin (Left t n ended) = omega arith

one_answer : (x : TraceEntry) → length (answer_lines x) ≤ 1
one_answer (OfStep moment) = one_begin moment.what
one_answer (OfTick report) = omega arith
one_answer (OfAction lane action outcome) = omega arith

few_sets : (watches : List Watch) (old new : List ℕ) → length (set_lines 0 watches old new) ≤ length watches
few_sets watches old new =
    let places = map (λ (w : Watch). w.place) watches in
    let same = ap length (set_lines-changes 0 watches old new) in
    let few = few_changes 0 (numbers_at old places) (numbers_at new places) in
    let many = length-map watches (λ (w : Watch). w.place) in
    let numbers = length-map places (number old) in
    omega arith

abbrev stamped_line : ℕ → ℕ → Line → Stamped
stamped_line tick step line = record { tick = tick; step = step; line = line }

pub few_lines : (watches : List Watch) (s : State) (n : ℕ) (e : Event) → length watches ≤ MAX_WATCHES → length (step s e).state.table.defs ≤ MAX_TASKS → length (lines_of_event watches s n e) ≤ MAX_EVENT_LINES
few_lines watches s n e few tasks =
    let x = step s e in
    let told = told_faults x.state x.answer in
    let faults = map FaultLine (drop (length s.faults) x.state.faults) in
    let sets = set_lines 0 watches s.image x.state.image in
    let one = one_answer x.answer in
    let some = few_faults x.state x.answer tasks in
    let new = ap length (new_faults s e) in
    let many = length-map (drop (length s.faults) x.state.faults) FaultLine in
    let last = few_sets watches s.image x.state.image in
    let rest = length-append faults sets in
    let all = length-append (answer_lines x.answer) (faults ++ sets) in
    let stamped = length-map (event_lines watches s x.state x.answer) (λ (l : Line). stamped_line x.state.tick (if is_step e then n + 1 else n) l) in
    omega arith

-- ---- reports

module _ (p : Project) (valid : IsValidProject p) where
  pub few_watches : length p.watches ≤ MAX_WATCHES
  few_watches = leb-true _ _ valid.limits.watches

  pub few_defs : (journal : List Event) → length (run p journal).table.defs ≤ MAX_TASKS
  few_defs journal = subst (λ (ds : List _). length ds ≤ MAX_TASKS) (sym (runs_keep_sizes p journal).same_tasks) (few-tasks p valid)

  few_next : (before : List Event) (n : ℕ) (e : Event) → length (lines_of_event p.watches (run p before) n e) ≤ MAX_EVENT_LINES
  few_next before n e =
      few_lines p.watches (run p before) n e few_watches (subst (λ (x : State). length x.table.defs ≤ MAX_TASKS) (run_more p before e) (few_defs (before ++ e ∷ [])))

  -- the events of a journal after those that are done
  pub few_from : (before : List Event) (n : ℕ) (after : List Event) → length (lines_from p.watches (run p before) n after) ≤ MAX_EVENT_LINES * length after
  few_from before n [] = omega arith
  few_from before n (e ∷ es) =
      let s = run p before in
      let n' = (if is_step e then n + 1 else n) in
      let first = few_next before n e in
      let rest = subst (λ (x : State). length (lines_from p.watches x n' es) ≤ MAX_EVENT_LINES * length es) (run_more p before e) (few_from (before ++ e ∷ []) n' es) in
      let all = length-append (lines_of_event p.watches s n e) (lines_from p.watches (step s e).state n' es) in
      omega arith

pub events_have_few_lines : EventsHaveFewLines
events_have_few_lines project journal valid = few_from project valid [] 0 journal

pub keeps_an_event : KeepsAnEvent
keeps_an_event project events e valid =
    let lines = more_lines project events (e ∷ []) in
    let few = few_from project valid events (steps_of events) (e ∷ []) in
    keeps_the_first lines ∙ same_kept _ _ _ _ (take_all MAX_REPORT_LINES lines (omega arith)) (omega arith)
