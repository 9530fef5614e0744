-- What is counted along a run is what the machine has: which tasks are up, how many of their programs ended, their regions
-- and their copies.
use Rattle.std.proofs.Common.{◌≡◌, ℕ, ◌+◌, ◌-◌, ◌<◌, List, [], length, map, Option, Some, None, refl, sym, ◌∙◌, ap, subst, arith}
use Rattle.std.specs.Prelude.{slice_index_or}
use Rattle.std.proofs.lemmas.List.{length-map}
use Rattle.spec_tables.specs.declared.task.TaskDef.{TaskDef}
use Rattle.spec_tables.specs.Tasks.{TaskState, state_of, task, no_task as no_def, region_count, has_open_cps, with_rank, with_region_count}
use Rattle.spec_tables.proofs.StateLists.{chosen_up}
use Rattle.spec_machine.specs.declared.event.Event.{Event}
use Rattle.spec_machine.specs.Project.{Project}
use Rattle.spec_machine.specs.State.{State, Scan, Plan, progress_of, programs_of, start}
use Rattle.spec_machine.specs.Machine.{step}
use Rattle.spec_machine.specs.ValidProject.{IsValidProject}
use Rattle.spec_schedule.specs.declared.trace.AuditTask.{AuditTask}
use Rattle.spec_schedule.specs.declared.trace.TraceMark.{TraceMark}
use Rattle.spec_schedule.specs.declared.trace.TraceMark.TheVariants.{Plain, Up, Down, Trigger, Copy, Sync, CopyEnd, SyncEnd}
use Rattle.spec_schedule.specs.Counting.{Counted, uncounted, counted, counted_all, marked}
use Rattle.spec_schedule.specs.Legal.{no_task}
use Rattle.spec_schedule.specs.TraceView.{audit_task, audit_tasks, seen}
use Rattle.spec_reach.proofs.Changes.{TaskView, view_of, IsSound, Shows, Change, Stays, Rotates, GoesDown, ComesUp, Restarts, Begins, Goes, Ends, marked_state, changed, counts_after, Makes, Happens, Known}
use Rattle.spec_reach.proofs.Reached.{view, happens, start_view}
use Rattle.spec_legal.proofs.CountedLists.{counts_length, count_at, audit_length, audit_at, all_uncounted}

pub record Mirrors (p : Project) (s : State) (cs : List Counted) : Type 0 where
  pub many : length cs ≡ length p.tasks
  pub shows : (t : ℕ) → t < length p.tasks → Shows (view_of s t) (slice_index_or cs t uncounted)

-- ---- one change

mark_shows : (m : TraceMark) (u : TaskState) (ended : ℕ) (o scan : Option Scan) (c : Counted) → Shows (view (Some u) ended o) c → Shows (view (marked_state m (Some u)) ended scan) (marked m c)
mark_shows Plain u ended o scan c w = record { up = w.up; ended = w.ended; region = w.region; cps = w.cps }
mark_shows Up u ended o scan c w = record { up = w.up; ended = w.ended; region = ap (λ n. n + 1) w.region; cps = w.cps }
mark_shows Down u ended o scan c w = record { up = w.up; ended = w.ended; region = ap (λ n. n - 1) w.region; cps = w.cps }
mark_shows (Trigger t) u ended o scan c w = record { up = w.up; ended = w.ended; region = w.region; cps = w.cps }
mark_shows Copy u ended o scan c w = record { up = w.up; ended = w.ended; region = w.region; cps = w.cps }
mark_shows Sync u ended o scan c w = record { up = w.up; ended = w.ended; region = w.region; cps = refl }
mark_shows CopyEnd u ended o scan c w = record { up = w.up; ended = w.ended; region = w.region; cps = w.cps }
mark_shows SyncEnd u ended o scan c w = record { up = w.up; ended = w.ended; region = w.region; cps = refl }

rank_shows : (n : ℕ) (o : Option TaskState) (ended : ℕ) (scan : Option Scan) (c : Counted) → Shows (view o ended scan) c → Shows (view (with_rank n o) ended scan) c
rank_shows n None ended scan c w = w
rank_shows n (Some u) ended scan c w = record { up = w.up; ended = w.ended; region = w.region; cps = w.cps }

end_shows : (o : Option TaskState) (ended : ℕ) (scan : Option Scan) (c : Counted) → Shows (view o ended scan) c → Shows (view (with_region_count 0 o) (ended + 1) None) (record c { ended = c.ended + 1; region_count = 0 })
end_shows None ended scan c w = record { up = w.up; ended = ap (λ n. n + 1) w.ended; region = refl; cps = w.cps }
end_shows (Some u) ended scan c w = record { up = w.up; ended = ap (λ n. n + 1) w.ended; region = refl; cps = w.cps }

shows_after : (s : State) (e : Event) (t : ℕ) (x : Change) (c : Counted) → IsSound (view_of s t) → Makes s e t x → Shows (view_of s t) c → Shows (changed x (view_of s t)) (counts_after x c)
shows_after s e t Stays c sound m w = w
shows_after s e t (Rotates n) c sound m w = rank_shows n (state_of s.table t) (progress_of s t).ended (progress_of s t).scan c w
shows_after s e t GoesDown c sound m w = record { up = refl; ended = refl; region = refl; cps = refl }
shows_after s e t (ComesUp now rank) c sound m w = record { up = refl; ended = refl; region = w.region ∙ ap region_count m.0; cps = w.cps ∙ ap has_open_cps m.0 }
shows_after s e t (Restarts now rank) c sound m w = record { up = refl; ended = refl; region = refl; cps = refl }
shows_after s e t (Begins scan) c sound m w = record { up = w.up; ended = w.ended; region = sym (sound.closed m.1); cps = w.cps }
shows_after s e t (Goes mark scan) c sound m w =
    let u = chosen_up s.table t m.0.chosen in
    subst (λ (o : Option TaskState). Shows (view (marked_state mark o) (progress_of s t).ended (Some scan)) (marked mark c)) (sym u.1)
    (mark_shows mark u.0 (progress_of s t).ended (progress_of s t).scan (Some scan) c (subst (λ (o : Option TaskState). Shows (view o (progress_of s t).ended (progress_of s t).scan) c) u.1 w))
shows_after s e t Ends c sound m w = end_shows (state_of s.table t) (progress_of s t).ended (progress_of s t).scan c w

-- ---- all tasks

module _ (p : Project) (valid : IsValidProject p) where
  lists : length p.schedule ≡ length p.tasks
  lists = valid.task_lists.lists

  pub table_length : length (audit_tasks p.tasks p.schedule) ≡ length p.tasks
  table_length = audit_length p.tasks p.schedule lists

  -- the table's task is the machine's
  pub same_task : (s : State) (t : ℕ) → Known p s → t < length p.tasks → slice_index_or (audit_tasks p.tasks p.schedule) t no_task ≡ audit_task (task s.table t) (programs_of s t)
  same_task s t known l =
      audit_at p.tasks p.schedule t lists l
      ∙ (ap (λ (ds : List TaskDef). audit_task (slice_index_or ds t no_def) (slice_index_or p.schedule t [])) (sym known.sizes.same_tasks)
      ∙ ap (λ (plan : Plan). audit_task (task s.table t) (slice_index_or plan.schedule t [])) (sym known.sizes.same_plan))

  -- what is counted of a task after an event
  pub counted_next : (s : State) (e : Event) (cs : List Counted) (t : ℕ) → Known p s → Mirrors p s cs → (l : t < length p.tasks) → (h : Happens p s e t) → slice_index_or (counted_all (audit_tasks p.tasks p.schedule) (seen p (step s e).answer) cs) t uncounted ≡ counts_after h.change (slice_index_or cs t uncounted)
  counted_next s e cs t known m l h =
      let ds = audit_tasks p.tasks p.schedule in
      let c = slice_index_or cs t uncounted in
      count_at 0 ds (seen p (step s e).answer) cs t (m.many ∙ sym table_length) (let n = table_length in omega arith)
      ∙ (ap (λ n. counted (slice_index_or ds t no_task) n (seen p (step s e).answer) c) (let z : 0 + t ≡ t = omega arith in z)
      ∙ (ap (λ (d : AuditTask). counted d t (seen p (step s e).answer) c) (same_task s t known l) ∙ h.counts c (m.shows t l)))

  pub mirrors_next : (s : State) (e : Event) (cs : List Counted) → Known p s → Mirrors p s cs → Mirrors p (step s e).state (counted_all (audit_tasks p.tasks p.schedule) (seen p (step s e).answer) cs)
  mirrors_next s e cs known m = record {
    many = counts_length 0 (audit_tasks p.tasks p.schedule) (seen p (step s e).answer) cs (m.many ∙ sym table_length) ∙ table_length;
    shows = λ t l.
        (let h = happens p s e t known l in
        let c = slice_index_or cs t uncounted in
        let w = shows_after s e t h.change c (known.sound t) h.makes (m.shows t l) in
        subst (λ (v : TaskView). Shows v (slice_index_or (counted_all (audit_tasks p.tasks p.schedule) (seen p (step s e).answer) cs) t uncounted)) (sym h.view)
        (subst (Shows (changed h.change (view_of s t))) (sym (counted_next s e cs t known m l h)) w));
  }

  pub mirrors_start : Mirrors p (start p) (map (λ d. uncounted) (audit_tasks p.tasks p.schedule))
  mirrors_start = record {
    many = length-map (audit_tasks p.tasks p.schedule) (λ (d : AuditTask). uncounted) ∙ table_length;
    shows = λ t l. subst (Shows (view_of (start p) t)) (sym (all_uncounted (audit_tasks p.tasks p.schedule) t)) (subst (λ (v : TaskView). Shows v uncounted) (sym (start_view p t)) (record { up = refl; ended = refl; region = refl; cps = refl }));
  }
