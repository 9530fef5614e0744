-- The law of triggers.
use Rattle.std.proofs.Common.{◌≡◌, ℕ, inl, inr, Bool, true, false, cond, List, length, map, Option, Some, None, refl, sym, ◌∙◌, ap, arith}
use Rattle.std.specs.Prelude.{not, ◌&&◌, is_some, replicate, slice_index_or}
use Rattle.std.specs.List.{list_all}
use Rattle.std.proofs.lemmas.Bool.{cases_lt}
use Rattle.std.proofs.lemmas.List.{get_or_past}
use Rattle.spec_tables.specs.declared.task.Release.TheVariants.{Released, Overlap, Inhibited}
use Rattle.spec_tables.specs.declared.task.TaskDef.{TaskDef}
use Rattle.spec_tables.specs.Tasks.{no_task, task, is_up, chosen}
use Rattle.spec_scan.specs.declared.bound.Effect.{Effect}
use Rattle.spec_scan.specs.declared.bound.Effect.TheVariants as effect
use Rattle.spec_scan.specs.Scan.{Advanced, advance}
use Rattle.spec_machine.specs.declared.answer.What.TheVariants as what
use Rattle.spec_machine.specs.declared.answer.Moment.{Moment}
use Rattle.spec_machine.specs.declared.event.Event.{Event}
use Rattle.spec_machine.specs.declared.event.Event.TheVariants.{Cpu, Tick, Act}
use Rattle.spec_machine.specs.Machine.{after_step}
use Rattle.spec_machine.specs.ProcessorStep.{triggered, plainly, scan_ended, with_progress, after_effect, after_advance, scan_step, task_step}
use Rattle.spec_machine.specs.Project.{Project}
use Rattle.spec_machine.specs.Releases.{after_answer}
use Rattle.spec_machine.specs.State.{State, Scan, Progress, progress_of, start, Answered}
use Rattle.spec_machine.specs.ValidProject.{IsValidProject}
use Rattle.spec_schedule.specs.declared.trace.TraceEvent.{TraceEvent}
use Rattle.spec_schedule.specs.declared.trace.TraceEvent.TheVariants as event
use Rattle.spec_schedule.specs.Counting.{Counted, uncounted, Numbers, unedited, CountedEvent}
use Rattle.spec_schedule.specs.TraceView.{audit_tasks, seen}
use Rattle.spec_reach.proofs.Changes.{Known}
use Rattle.spec_reach.proofs.Reached.{known_at}
use Rattle.spec_legal.specs.LegalRuns.{counted_run}
use Rattle.spec_legal.proofs.Along.{place, IsPlace, first_place, all_places}
use Rattle.spec_laws.specs.Triggers.{overlaps_at, keeps_triggers}

module _ (p : Project) (s : State) (cs : List Counted) (ns : List Numbers) (h : IsPlace p s cs) where
  known : Known p s
  known = known_at p s h.reached

  abbrev with_event : TraceEvent → CountedEvent
  with_event e = record { tasks = cs; programs = ns; event = e }

  abbrev Keeps : Answered Moment → Type 0
  Keeps x = keeps_triggers p.tasks (with_event (seen p (after_step x).answer)) ≡ true

  -- a task is counted up if it is up, also one that isn't there
  same_up : (t : ℕ) → (slice_index_or cs t uncounted).up ≡ is_up s.table t
  same_up t =
      elim (cases_lt t (length p.tasks)) [
        | inl l ↦ (h.mirrors.shows t l).up
        | inr g ↦ ap (λ (c : Counted). c.up) (get_or_past cs t uncounted (let m = h.mirrors.many in omega arith)) ∙ sym (ap (λ o. is_some o) (get_or_past s.table.states t None (let m = known.sizes.states in omega arith)))
      ]

  overlaps : (t : ℕ) (e : TraceEvent) → overlaps_at p.tasks (with_event e) t ≡ (is_up s.table t && not (task s.table t).inhibited)
  overlaps t e =
      ap (λ b. b && not (slice_index_or p.tasks t no_task).inhibited) (same_up t)
      ∙ ap (λ (ds : List TaskDef). is_up s.table t && not (slice_index_or ds t no_task).inhibited) (sym known.sizes.same_tasks)

  -- by whether the task is inhibited and whether it is up
  by_tests : (y : State) (t n other : ℕ) (inhibited up : Bool) → ((e : TraceEvent) → overlaps_at p.tasks (with_event e) other ≡ (up && not inhibited)) → Keeps (triggered (what.Ran t n) other (after_answer (cond inhibited Inhibited (cond up Overlap Released)) other y))
  by_tests y t n other true true k = ap not (k event.Idle)
  by_tests y t n other true false k = ap not (k event.Idle)
  by_tests y t n other false true k = k event.Idle
  by_tests y t n other false false k = ap not (k event.Idle)

  by_end : (y : State) (t n : ℕ) (q : Progress) → Keeps (plainly (scan_ended t q y) (what.Left t n true))
  by_end y t n q = refl

  by_effect : (y : State) → y.table ≡ s.table → (t : ℕ) (q : Progress) (n : ℕ) (e : Effect) → Keeps (after_effect y t q n e)
  by_effect y same t q n effect.Ran = refl
  by_effect y same t q n effect.Up = refl
  by_effect y same t q n effect.Down = refl
  by_effect y same t q n (effect.Trigger other) =
      by_tests y t n other (task y.table other).inhibited (is_up y.table other) (λ e. overlaps other e ∙ ap (λ z. is_up z other && not (task z other).inhibited) (sym same))
  by_effect y same t q n (effect.CopyStart true) = refl
  by_effect y same t q n (effect.CopyStart false) = refl
  by_effect y same t q n (effect.Copied true true) = refl
  by_effect y same t q n (effect.Copied true false) = refl
  by_effect y same t q n (effect.Copied false sync) = refl
  by_effect y same t q n (effect.Left true) = by_end y t n q
  by_effect y same t q n (effect.Left false) = refl
  by_effect y same t q n effect.Minor = refl
  by_effect y same t q n (effect.Major code) = refl

  by_scan : (t : ℕ) (q : Progress) (o : Option Scan) → Keeps (scan_step s t q o)
  by_scan t q None = refl
  by_scan t q (Some scan) = go (advance scan.rungs scan.position s.image s.tick scan.first q.flags)
    where
      go : (a : Advanced) → Keeps (after_advance s t q scan a)
      go a =
          let q' : Progress = record { ended = q.ended; scan = Some (record scan { position = a.position }); flags = a.flags } in
          by_effect (record (with_progress t q' s) { image = a.image }) refl t q' scan.program a.effect

  by_task : (o : Option ℕ) → Keeps (task_step s o)
  by_task None = refl
  by_task (Some t) = by_scan t (progress_of s t) (progress_of s t).scan

  triggers_here : (e : Event) → keeps_triggers p.tasks (place p s cs ns e) ≡ true
  triggers_here Cpu = by_task (chosen s.table)
  triggers_here Tick = refl
  triggers_here (Act lane a) = refl

pub runs_keep_triggers : (p : Project) → IsValidProject p → (journal : List Event) → list_all (keeps_triggers p.tasks) (counted_run p journal) ≡ true
runs_keep_triggers p valid journal =
    all_places p valid (keeps_triggers p.tasks) (λ s e cs ns h. triggers_here p s cs ns h e) (start p) journal (map (λ d. uncounted) (audit_tasks p.tasks p.schedule)) (replicate (length p.programs) unedited) (first_place p valid)
