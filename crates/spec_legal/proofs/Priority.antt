-- The priority law and the law of regions.
use Rattle.std.proofs.Common.{◌≡◌, ℕ, ◌+◌, ◌<◌, inl, inr, true, false, List, length, map, Option, Some, None, refl, sym, ◌∙◌, ap, subst, arith}
use Rattle.std.specs.Prelude.{is_some, nat_eq, nat_lt, not, ◌&&◌, ◌||◌, replicate, slice_index_or}
use Rattle.std.proofs.lemmas.Bool.{and_parts, and_from, or_left, or_right, false≢true, false_from_ne_true, ltb-true, eqb-false, not-true, not_from_false}
use Rattle.spec_tables.specs.declared.task.TaskDef.{TaskDef}
use Rattle.spec_tables.specs.Tasks.{TaskState, state_of, task, chosen, is_open as open_state, region_count, has_open_cps}
use Rattle.spec_tables.proofs.StateLists.{chosen_up}
use Rattle.spec_scan.specs.declared.bound.Effect.{Effect}
use Rattle.spec_scan.specs.declared.bound.Effect.TheVariants as effect
use Rattle.spec_scan.specs.Scan.{Advanced, advance}
use Rattle.spec_machine.specs.declared.event.Event.{Event}
use Rattle.spec_machine.specs.declared.event.Event.TheVariants.{Cpu, Tick as ATick, Act as AnAct}
use Rattle.spec_machine.specs.Project.{Project}
use Rattle.spec_machine.specs.State.{State, Scan, Progress, progress_of, start}
use Rattle.spec_machine.specs.ProcessorStep.{task_step, scan_step, after_advance}
use Rattle.spec_machine.specs.Machine.{after_step, step}
use Rattle.spec_machine.specs.ValidProject.{IsValidProject}
use Rattle.spec_machine.proofs.OrderlyTables.{only_chosen}
use Rattle.spec_schedule.specs.declared.trace.AuditTask.{AuditTask}
use Rattle.spec_schedule.specs.declared.trace.TraceEvent.{TraceEvent}
use Rattle.spec_schedule.specs.declared.trace.TraceEvent.TheVariants.{Idle, Began, Step, Left, Tick, Act}
use Rattle.spec_schedule.specs.Counting.{Counted, uncounted, Numbers, unedited, is_open, stepping}
use Rattle.spec_schedule.specs.Legal.{no_task, priority_of, some_up, higher_up, may_step, keeps_priority, another_open, keeps_region}
use Rattle.spec_schedule.specs.TraceView.{audit_tasks, table_of, seen}
use Rattle.spec_reach.proofs.Changes.{Known}
use Rattle.spec_reach.proofs.Least.{IsLeastUp, chosen_is, none_chosen}
use Rattle.spec_reach.proofs.Reached.{known_at}
use Rattle.spec_reach.proofs.Views.{within_states}
use Rattle.spec_legal.specs.LegalRuns.{RunsKeepPriority, RunsKeepRegions}
use Rattle.spec_legal.proofs.Along.{place, IsPlace, first_place, all_places}
use Rattle.spec_legal.proofs.CountedLists.{some_passes, some_enumerated}
use Rattle.spec_legal.proofs.Mirrors.{table_length, same_task}

-- ---- whose step it is

-- what is seen of a step is of its task
by_scan : (p : Project) (s : State) (t : ℕ) (q : Progress) (o : Option Scan) → stepping (seen p (after_step (scan_step s t q o)).answer) ≡ Some t
by_scan p s t q None = refl
by_scan p s t q (Some scan) = go (advance scan.rungs scan.position s.image s.tick scan.first q.flags)
  where
    go : (a : Advanced) → stepping (seen p (after_step (after_advance s t q scan a)).answer) ≡ Some t
    go a = by_effect a.effect
      where
        by_effect : (e : Effect) → stepping (seen p (after_step (after_advance s t q scan (record a { effect = e }))).answer) ≡ Some t
        by_effect effect.Ran = refl
        by_effect effect.Up = refl
        by_effect effect.Down = refl
        by_effect (effect.Trigger other) = refl
        by_effect (effect.CopyStart sync) = refl
        by_effect (effect.Copied true sync) = refl
        by_effect (effect.Copied false sync) = refl
        by_effect (effect.Left true) = refl
        by_effect (effect.Left false) = refl
        by_effect effect.Minor = refl
        by_effect (effect.Major code) = refl

by_task : (p : Project) (s : State) (o : Option ℕ) → stepping (seen p (after_step (task_step s o)).answer) ≡ o
by_task p s None = refl
by_task p s (Some t) = by_scan p s t (progress_of s t) (progress_of s t).scan

-- a step is of the chosen task
pub step_of_chosen : (p : Project) (s : State) (e : Event) (t : ℕ) → stepping (seen p (step s e).answer) ≡ Some t → chosen s.table ≡ Some t
step_of_chosen p s Cpu t h = sym (by_task p s (chosen s.table)) ∙ h
step_of_chosen p s ATick t h = absurd (cc h)
step_of_chosen p s (AnAct lane a) t h = absurd (cc h)

idle_is_none : (p : Project) (s : State) (e : Event) → seen p (step s e).answer ≡ Idle → chosen s.table ≡ None
idle_is_none p s Cpu h = sym (by_task p s (chosen s.table)) ∙ ap stepping h
idle_is_none p s ATick h = absurd (cc h)
idle_is_none p s (AnAct lane a) h = absurd (cc h)

-- ---- counted tasks are the machine's

open_parts : (o : Option TaskState) → (nat_lt 0 (region_count o) || has_open_cps o) ≡ open_state o
open_parts None = refl
open_parts (Some u) = refl

module _ (p : Project) (valid : IsValidProject p) (s : State) (cs : List Counted) (h : IsPlace p s cs) where
  abbrev ds : List AuditTask
  ds = audit_tasks p.tasks p.schedule

  pub known : Known p s
  known = known_at p s h.reached

  abbrev counts : ℕ → Counted
  counts t = slice_index_or cs t uncounted

  pub within_tasks : (t : ℕ) (u : TaskState) → state_of s.table t ≡ Some u → t < length p.tasks
  within_tasks t u g = let a = within_states s.table.states t u g in let b = known.sizes.states in omega arith

  pub within_defs : (t : ℕ) → t < length p.tasks → t < length s.table.defs
  within_defs t l = subst (λ (xs : List TaskDef). t < length xs) (sym known.sizes.same_tasks) l

  pub counted_open : (t : ℕ) → t < length p.tasks → is_open (counts t) ≡ open_state (state_of s.table t)
  counted_open t l =
      let w = h.mirrors.shows t l in
      ap (λ n. nat_lt 0 n || (counts t).cps_open) w.region ∙ (ap (λ b. nat_lt 0 (region_count (state_of s.table t)) || b) w.cps ∙ open_parts (state_of s.table t))

  -- a task that is counted up is up
  pub counted_up : (t : ℕ) → t < length p.tasks → (counts t).up ≡ true → (v : TaskState) × (state_of s.table t ≡ Some v)
  counted_up t l up = go (state_of s.table t) (sym (h.mirrors.shows t l).up ∙ up)
    where
      go : (o : Option TaskState) → is_some o ≡ true → (v : TaskState) × (o ≡ Some v)
      go None e = absurd (false≢true e)
      go (Some v) e = (v, refl)

  pub up_counted : (t : ℕ) (v : TaskState) → state_of s.table t ≡ Some v → (counts t).up ≡ true
  up_counted t v g = (h.mirrors.shows t (within_tasks t v g)).up ∙ ap is_some g

  pub same_priority : (t : ℕ) → t < length p.tasks → (slice_index_or ds t no_task).priority ≡ (task s.table t).priority
  same_priority t l = ap (λ (d : AuditTask). d.priority) (same_task p valid s t known l)

  -- ---- the priority law

  none_higher : (ns : List Numbers) (e : Event) (t : ℕ) → IsLeastUp s.table t → higher_up (table_of p) (place p s cs ns e) t ≡ true → ⊥
  none_higher ns e t l up =
      let f = some_passes (λ u. u.counts.up && nat_lt u.task.priority (priority_of (table_of p) t)) 0 ds cs up in
      let within : f.place < length p.tasks = (let a = f.within in let b = table_length p valid in omega arith) in
      let q = and_parts (counts f.place).up (nat_lt (slice_index_or ds f.place no_task).priority (priority_of (table_of p) t)) f.passes in
      let v = counted_up f.place within q.0 in
      let r = (l.leads f.place v.0 (within_defs f.place within) v.1).0 in
      let x = ltb-true (slice_index_or ds f.place no_task).priority (priority_of (table_of p) t) q.1 in
      let a = same_priority f.place within in
      let b = same_priority t (within_tasks t l.state l.up) in
      absurd (omega arith)

  chosen_may_step : (ns : List Numbers) (e : Event) (t : ℕ) → chosen s.table ≡ Some t → may_step (table_of p) (place p s cs ns e) t ≡ true
  chosen_may_step ns e t c =
      let u = chosen_up s.table t c in
      let x = place p s cs ns e in
      and_from (counts t).up (is_open (counts t) || not (higher_up (table_of p) x t)) (up_counted t u.0 u.1)
      (elim (chosen_is s.table t c) [
        | inl o ↦ or_left (is_open (counts t)) (not (higher_up (table_of p) x t)) (counted_open t (within_tasks t u.0 u.1) ∙ o)
        | inr l ↦ or_right (is_open (counts t)) (not (higher_up (table_of p) x t)) (not_from_false (higher_up (table_of p) x t) (false_from_ne_true (higher_up (table_of p) x t) (none_higher ns e t l)))
      ])

  none_is_up : (ns : List Numbers) (e : Event) → chosen s.table ≡ None → some_up (λ u. true) (table_of p) (place p s cs ns e) ≡ true → ⊥
  none_is_up ns e c up =
      let f = some_passes (λ u. u.counts.up && true) 0 ds cs up in
      let within : f.place < length p.tasks = (let a = f.within in let b = table_length p valid in omega arith) in
      let q = and_parts (counts f.place).up true f.passes in
      let v = counted_up f.place within q.0 in
      none_chosen s.table f.place v.0 c (within_defs f.place within) v.1

  by_event : (ns : List Numbers) (e : TraceEvent) → ((t : ℕ) → stepping e ≡ Some t → may_step (table_of p) (record { tasks = cs; programs = ns; event = e }) t ≡ true) → (e ≡ Idle → not (some_up (λ u. true) (table_of p) (record { tasks = cs; programs = ns; event = e })) ≡ true) → keeps_priority (table_of p) (record { tasks = cs; programs = ns; event = e }) ≡ true
  by_event ns Idle may none = none refl
  by_event ns (Began t g v) may none = may t refl
  by_event ns (Step t g m f) may none = may t refl
  by_event ns (Left t g ended) may none = may t refl
  by_event ns (Tick r o w) may none = refl
  by_event ns (Act lane verb g answer mask) may none = refl

  pub priority_here : (e : Event) (ns : List Numbers) → keeps_priority (table_of p) (place p s cs ns e) ≡ true
  priority_here e ns =
      by_event ns (seen p (step s e).answer) (λ t k. chosen_may_step ns e t (step_of_chosen p s e t k))
      (λ k. not_from_false _ (false_from_ne_true _ (none_is_up ns e (idle_is_none p s e k))))

  -- ---- the law of regions

  pub others_closed : (t k : ℕ) → chosen s.table ≡ Some t → k < length p.tasks → is_open (counts k) ≡ true → k ≡ t
  others_closed t k c l o = go (state_of s.table k) refl (sym (counted_open k l) ∙ o)
    where
      go : (x : Option TaskState) → state_of s.table k ≡ x → open_state x ≡ true → k ≡ t
      go None g e = absurd (false≢true e)
      go (Some v) g e = only_chosen s.mode s.table t k v known.orderly c g e

  no_other : (t : ℕ) → chosen s.table ≡ Some t → another_open t cs ≡ true → ⊥
  no_other t c o =
      let f = some_enumerated (λ u. is_open u.1 && not (nat_eq u.0 t)) 0 cs uncounted o in
      let within : f.place < length p.tasks = (let a = f.within in let b = h.mirrors.many in omega arith) in
      let q = and_parts (is_open (counts f.place)) (not (nat_eq (0 + f.place) t)) f.passes in
      let e : 0 + f.place ≡ t = (let x = others_closed t f.place c within q.0 in omega arith) in
      eqb-false (0 + f.place) t (not-true (nat_eq (0 + f.place) t) q.1) e

  by_step : (ns : List Numbers) (e : TraceEvent) → ((t : ℕ) → stepping e ≡ Some t → another_open t cs ≡ false) → keeps_region (record { tasks = cs; programs = ns; event = e }) ≡ true
  by_step ns e none = go (stepping e) none
    where
      go : (o : Option ℕ) → ((t : ℕ) → o ≡ Some t → another_open t cs ≡ false) → elim o [ None ↦ true | Some t ↦ not (another_open t cs) ] ≡ true
      go None none = refl
      go (Some t) none = not_from_false (another_open t cs) (none t refl)

  pub region_here : (e : Event) (ns : List Numbers) → keeps_region (place p s cs ns e) ≡ true
  region_here e ns = by_step ns (seen p (step s e).answer) (λ t k. false_from_ne_true (another_open t cs) (no_other t (step_of_chosen p s e t k)))

-- ---- the laws

pub runs_keep_priority : RunsKeepPriority
runs_keep_priority p journal valid =
    all_places p valid (keeps_priority (table_of p)) (λ s e cs ns h. priority_here p valid s cs h e ns) (start p) journal (map (λ d. uncounted) (audit_tasks p.tasks p.schedule)) (replicate (length p.programs) unedited) (first_place p valid)

pub runs_keep_regions : RunsKeepRegions
runs_keep_regions p journal valid =
    all_places p valid keeps_region (λ s e cs ns h. region_here p valid s cs h e ns) (start p) journal (map (λ d. uncounted) (audit_tasks p.tasks p.schedule)) (replicate (length p.programs) unedited) (first_place p valid)
