-- The rank of a task that stays up, and which task leads its priority.
use Rattle.std.proofs.Common.{◌≡◌, ℕ, ◌+◌, ◌-◌, ◌<◌, ◌≤◌, inl, inr, Bool, true, false, cond, List, length, Some, refl, sym, ◌∙◌, ap, subst, arith}
use Rattle.std.specs.Prelude.{slice_index_or}
use Rattle.spec_tables.specs.declared.task.TaskDef.{TaskDef}
use Rattle.spec_tables.specs.Tasks.{TaskState, Table, state_of, task, chosen, with_region_count}
use Rattle.spec_tables.proofs.StateLists.{chosen_up}
use Rattle.spec_machine.specs.declared.event.Event.{Event}
use Rattle.spec_machine.specs.declared.event.Event.TheVariants as events
use Rattle.spec_machine.specs.Project.{Project}
use Rattle.spec_machine.specs.State.{State}
use Rattle.spec_machine.specs.Machine.{step}
use Rattle.spec_machine.specs.ValidProject.{IsValidProject}
use Rattle.spec_schedule.specs.declared.trace.TraceMark.{TraceMark}
use Rattle.spec_schedule.specs.declared.trace.TraceMark.TheVariants.{Plain, Up, Down, Trigger, Copy, Sync, CopyEnd, SyncEnd}
use Rattle.spec_schedule.specs.Counting.{Counted, uncounted, marked}
use Rattle.spec_reach.proofs.Changes.{TaskView, view_of, Change, Stays, Rotates, GoesDown, ComesUp, Restarts, Begins, Goes, Ends, marked_state, changed, counts_after, TakesTurn, Makes, Known}
use Rattle.spec_reach.proofs.First.{after_event, chosen_leads, first_at, same_tasks}
use Rattle.spec_reach.proofs.Reached.{happens, known_at}
use Rattle.spec_legal.proofs.Along.{IsPlace, counts_next}
use Rattle.spec_legal.proofs.Mirrors.{counted_next}
use Rattle.spec_legal.proofs.Priority.{within_tasks, up_counted}

abbrev pub downs : List Counted → ℕ → ℕ
downs cs t = (slice_index_or cs t uncounted).downs

-- ---- how often a task has gone down

mark_downs : (m : TraceMark) (c : Counted) → (marked m c).downs ≡ c.downs
mark_downs Plain c = refl
mark_downs Up c = refl
mark_downs Down c = refl
mark_downs (Trigger t) c = refl
mark_downs Copy c = refl
mark_downs Sync c = refl
mark_downs CopyEnd c = refl
mark_downs SyncEnd c = refl

gone_more : (b : Bool) (n : ℕ) → n ≤ cond b (n + 1) n
gone_more true n = omega arith
gone_more false n = omega arith

downs_grow : (x : Change) (c : Counted) → c.downs ≤ (counts_after x c).downs
downs_grow Stays c = omega arith
downs_grow (Rotates n) c = omega arith
downs_grow GoesDown c = gone_more c.up c.downs
downs_grow (ComesUp now rank) c = omega arith
downs_grow (Restarts now rank) c = gone_more c.up c.downs
downs_grow (Begins scan) c = omega arith
downs_grow (Goes m scan) c = (let e = mark_downs m c in omega arith)
downs_grow Ends c = omega arith

one_down : (b : Bool) (n : ℕ) → b ≡ true → cond b (n + 1) n ≡ n → ⊥
one_down true n e h = absurd (omega arith)
one_down false n e h = absurd (cc e)

-- ---- a task that stays up keeps its rank

-- it is up after the event with its rank
pub record StaysUp (x : Table) (t rank : ℕ) : Type 0 where
  pub state : TaskState
  pub up : state_of x t ≡ Some state
  pub same : state.rank ≡ rank

mark_state : (m : TraceMark) (u : TaskState) → (v : TaskState) × (marked_state m (Some u) ≡ Some v) × (v.rank ≡ u.rank)
mark_state Plain u = (u, refl, refl)
mark_state Up u = (record u { region_count = u.region_count + 1 }, refl, refl)
mark_state Down u = (record u { region_count = u.region_count - 1 }, refl, refl)
mark_state (Trigger t) u = (u, refl, refl)
mark_state Copy u = (u, refl, refl)
mark_state Sync u = (record u { cps_open = true }, refl, refl)
mark_state CopyEnd u = (u, refl, refl)
mark_state SyncEnd u = (record u { cps_open = false }, refl, refl)

module _ (s : State) (e : Event) (t : ℕ) (u : TaskState) (up : state_of s.table t ≡ Some u) (c : Counted) (counted : c.up ≡ true) (stays : TakesTurn s e t → ⊥) where
  -- the state after a change that takes it not down
  by_change : (x : Change) → Makes s e t x → (counts_after x c).downs ≡ c.downs → (v : TaskState) × ((changed x (view_of s t)).state ≡ Some v) × (v.rank ≡ u.rank)
  by_change Stays m d = (u, up, refl)
  by_change (Rotates n) m d = absurd (stays m.0)
  by_change GoesDown m d = absurd (one_down c.up c.downs counted d)
  by_change (ComesUp now rank) m d = absurd (cc (up, m.0))
  by_change (Restarts now rank) m d = absurd (one_down c.up c.downs counted d)
  by_change (Begins scan) m d = (u, up, refl)
  by_change (Goes mark scan) m d = let r = mark_state mark u in (r.0, ap (marked_state mark) up ∙ r.1, r.2)
  by_change Ends m d = (record u { region_count = 0 }, ap (with_region_count 0) up, refl)

module _ (p : Project) (valid : IsValidProject p) (s : State) (e : Event) (cs : List Counted) (h : IsPlace p s cs) where
  abbrev known : Known p s
  known = known_at p s h.reached

  abbrev s' : State
  s' = (step s e).state

  abbrev cs' : List Counted
  cs' = counts_next p valid s e cs

  pub downs_next : (t : ℕ) → t < length p.tasks → downs cs t ≤ downs cs' t
  downs_next t l =
      let x = happens p s e t known l in
      subst (λ (c : Counted). downs cs t ≤ c.downs) (sym (counted_next p valid s e cs t known h.mirrors l x)) (downs_grow x.change (slice_index_or cs t uncounted))

  pub stays_up_at : (t : ℕ) (u : TaskState) → state_of s.table t ≡ Some u → (TakesTurn s e t → ⊥) → downs cs' t ≡ downs cs t → StaysUp s'.table t u.rank
  stays_up_at t u up stays d =
      let l = within_tasks p valid s cs h t u up in
      let x = happens p s e t known l in
      let same = ap (λ (c : Counted). c.downs) (counted_next p valid s e cs t known h.mirrors l x) in
      let r = by_change s e t u up (slice_index_or cs t uncounted) (up_counted p valid s cs h t u up) stays x.change x.makes (sym same ∙ d) in
      record { state = r.0; up = ap (λ (v : TaskView). v.state) x.view ∙ r.1; same = r.2 }

-- ---- who leads its priority

-- a task that is up with a rank that is the least of its priority
pub record IsLeading (s : Table) (t : ℕ) : Type 0 where
  pub state : TaskState
  pub up : state_of s t ≡ Some state
  pub leads : (q : ℕ) (v : TaskState) → state_of s q ≡ Some v → (task s t).priority ≡ (task s q).priority → state.rank ≤ v.rank

module _ (p : Project) (valid : IsValidProject p) (s : State) (cs : List Counted) (h : IsPlace p s cs) where
  pub chosen_is_leading : (t : ℕ) → chosen s.table ≡ Some t → IsLeading s.table t
  chosen_is_leading t c =
      let u = chosen_up s.table t c in
      record { state = u.0; up = u.1; leads = λ q v g same. chosen_leads p s t q u.0 v (known_at p s h.reached) (first_at p s h.reached) c u.1 g same }

  -- two tasks that lead the same priority are one
  pub same_leading : (t u : ℕ) → IsLeading s.table t → IsLeading s.table u → (task s.table t).priority ≡ (task s.table u).priority → u ≡ t
  same_leading t u a b same =
      let x = a.leads u b.state b.up same in
      let y = b.leads t a.state a.up (sym same) in
      sym ((known_at p s h.reached).orderly.differ t u a.state b.state a.up b.up (omega arith))

  pub leading_next : (e : Event) (t : ℕ) → IsLeading s.table t → (e ≡ events.Tick → ⊥) → downs (counts_next p valid s e cs) t ≡ downs cs t → IsLeading (step s e).state.table t
  leading_next e t a no_tick d =
      let known = known_at p s h.reached in
      let x = (step s e).state in
      let w = stays_up_at p valid s e cs h t a.state a.up (λ k. no_tick k.tick) d in
      record {
        state = w.state;
        up = w.up;
        leads = λ q v g same.
            (let same' : (task s.table t).priority ≡ (task s.table q).priority = sym (ap (λ (d : TaskDef). d.priority) (same_tasks p s e t known)) ∙ (same ∙ ap (λ (d : TaskDef). d.priority) (same_tasks p s e q known)) in
            let r = w.same in
            elim (after_event p s e q v known g) [
              | inl k ↦ (let y = a.leads q k.before k.was same' in let z = k.same in omega arith)
              | inr k ↦ (let y = known.orderly.below t a.state a.up in let z = k.above in omega arith)
            ]);
      }
