-- A task that has something open has the least rank of its priority.
use Rattle.std.proofs.Common.{◌≡◌, ℕ, ◌<◌, ◌≤◌, ◌⊎◌, inl, inr, true, false, List, [], ◌∷◌, length, Option, Some, None, refl, sym, ◌∙◌, ap, subst, arith}
use Rattle.std.specs.Prelude.{slice_index_or}
use Rattle.std.proofs.lemmas.Bool.{false≢true}
use Rattle.std.proofs.lemmas.Option.{same_Some}
use Rattle.spec_tables.specs.declared.task.TaskDef.{TaskDef}
use Rattle.spec_tables.specs.Tasks.{TaskState, state_of, task, no_task, chosen, is_open, with_rank, with_region_count}
use Rattle.spec_tables.proofs.StateLists.{none_up}
use Rattle.spec_machine.specs.declared.event.Event.{Event}
use Rattle.spec_machine.specs.Project.{Project}
use Rattle.spec_machine.specs.State.{State, start}
use Rattle.spec_machine.specs.Machine.{step, run_from}
use Rattle.spec_schedule.specs.declared.trace.TraceMark.{TraceMark}
use Rattle.spec_schedule.specs.declared.trace.TraceMark.TheVariants.{Plain, Up, Down, Trigger, Copy, Sync, CopyEnd, SyncEnd}
use Rattle.spec_reach.specs.OpenTasks.{OpenIsFirst, IsFirst}
use Rattle.spec_reach.proofs.Changes.{TaskView, view_of, Change, Stays, Rotates, GoesDown, ComesUp, Restarts, Begins, Goes, Ends, marked_state, changed, Makes, Known}
use Rattle.spec_reach.proofs.Least.{chosen_is}
use Rattle.spec_reach.proofs.Reached.{IsReached, reached_start, reached_next, happens, known_at}
use Rattle.spec_reach.proofs.Sizes.{event_keeps_sizes}
use Rattle.spec_reach.proofs.Views.{within_states}

-- ---- the ranks after an event

-- the task has the rank that it had, and if it has something open it had so before or is the chosen one
pub record KeepsRank (s : State) (t : ℕ) (v : TaskState) : Type 0 where
  pub before : TaskState
  pub was : state_of s.table t ≡ Some before
  pub same : v.rank ≡ before.rank
  pub opens : is_open (Some v) ≡ true → (is_open (Some before) ≡ true) ⊎ (chosen s.table ≡ Some t)

-- it has a rank above all others, and nothing open
pub record NewRank (s : State) (v : TaskState) : Type 0 where
  pub above : s.table.next ≤ v.rank
  pub closed : is_open (Some v) ≡ false

abbrev pub RankAfter : State → ℕ → TaskState → Type 0
RankAfter s t v = KeepsRank s t v ⊎ NewRank s v

stays_ranked : (s : State) (t : ℕ) (v : TaskState) → state_of s.table t ≡ Some v → RankAfter s t v
stays_ranked s t v h = inl (record { before = v; was = h; same = refl; opens = λ o. inl o })

-- a state of the chosen task with its rank
chosen_ranked : (s : State) (t : ℕ) (u w v : TaskState) → chosen s.table ≡ Some t → state_of s.table t ≡ Some u → Some w ≡ Some v → w.rank ≡ u.rank → RankAfter s t v
chosen_ranked s t u w v c g e r = inl (record { before = u; was = g; same = sym (ap (λ (x : TaskState). x.rank) (same_Some w v e)) ∙ r; opens = λ o. inr c })

mark_ranked : (s : State) (t : ℕ) (m : TraceMark) (o : Option TaskState) (v : TaskState) → chosen s.table ≡ Some t → state_of s.table t ≡ o → marked_state m o ≡ Some v → RankAfter s t v
mark_ranked s t Plain None v c g e = absurd (cc e)
mark_ranked s t Up None v c g e = absurd (cc e)
mark_ranked s t Down None v c g e = absurd (cc e)
mark_ranked s t (Trigger q) None v c g e = absurd (cc e)
mark_ranked s t Copy None v c g e = absurd (cc e)
mark_ranked s t Sync None v c g e = absurd (cc e)
mark_ranked s t CopyEnd None v c g e = absurd (cc e)
mark_ranked s t SyncEnd None v c g e = absurd (cc e)
mark_ranked s t Plain (Some u) v c g e = chosen_ranked s t u u v c g e refl
mark_ranked s t Up (Some u) v c g e = chosen_ranked s t u _ v c g e refl
mark_ranked s t Down (Some u) v c g e = chosen_ranked s t u _ v c g e refl
mark_ranked s t (Trigger q) (Some u) v c g e = chosen_ranked s t u u v c g e refl
mark_ranked s t Copy (Some u) v c g e = chosen_ranked s t u u v c g e refl
mark_ranked s t Sync (Some u) v c g e = chosen_ranked s t u _ v c g e refl
mark_ranked s t CopyEnd (Some u) v c g e = chosen_ranked s t u u v c g e refl
mark_ranked s t SyncEnd (Some u) v c g e = chosen_ranked s t u _ v c g e refl

end_ranked : (s : State) (t : ℕ) (o : Option TaskState) (v : TaskState) → chosen s.table ≡ Some t → state_of s.table t ≡ o → with_region_count 0 o ≡ Some v → RankAfter s t v
end_ranked s t None v c g e = absurd (cc e)
end_ranked s t (Some u) v c g e = chosen_ranked s t u _ v c g e refl

pub turn_ranked : (s : State) (t n : ℕ) (o : Option TaskState) (v : TaskState) → n ≡ s.table.next → is_open o ≡ false → with_rank n o ≡ Some v → NewRank s v
turn_ranked s t n None v same closed e = absurd (cc e)
turn_ranked s t n (Some u) v same closed e =
    let w : record u { rank = n } ≡ v = same_Some (record u { rank = n }) v e in
    let r = ap (λ (x : TaskState). x.rank) w in
    record { above = omega arith; closed = sym (ap (λ (x : TaskState). is_open (Some x)) w) ∙ closed }

new_ranked : (s : State) (w v : TaskState) → Some w ≡ Some v → s.table.next ≤ w.rank → is_open (Some w) ≡ false → NewRank s v
new_ranked s w v e above closed = subst (NewRank s) (same_Some w v e) (record { above = above; closed = closed })

pub rank_after : (s : State) (e : Event) (t : ℕ) (v : TaskState) (c : Change) → Makes s e t c → (changed c (view_of s t)).state ≡ Some v → RankAfter s t v
rank_after s e t v Stays m h = stays_ranked s t v h
rank_after s e t v (Rotates n) m h = inr (turn_ranked s t n (state_of s.table t) v m.1 m.0.closed h)
rank_after s e t v GoesDown m h = absurd (cc h)
rank_after s e t v (ComesUp now rank) m h = inr (new_ranked s _ v h m.1.rank refl)
rank_after s e t v (Restarts now rank) m h = inr (new_ranked s _ v h m.1.rank refl)
rank_after s e t v (Begins scan) m h = stays_ranked s t v h
rank_after s e t v (Goes mark scan) m h = mark_ranked s t mark (state_of s.table t) v m.0.chosen refl h
rank_after s e t v Ends m h = end_ranked s t (state_of s.table t) v m.0.chosen refl h

-- ---- the first of a priority

-- the chosen task leads its priority
pub chosen_leads : (p : Project) (s : State) (t q : ℕ) (u v : TaskState) → Known p s → IsFirst s.table → chosen s.table ≡ Some t → state_of s.table t ≡ Some u → state_of s.table q ≡ Some v → (task s.table t).priority ≡ (task s.table q).priority → u.rank ≤ v.rank
chosen_leads p s t q u v known first c g k same =
    elim (chosen_is s.table t c) [
      | inl o ↦ first t q u v g k (sym (ap is_open g) ∙ o) same
      | inr l ↦
          let within : q < length s.table.defs = (let a = within_states s.table.states q v k in let b = known.sizes.states in let d = ap (λ (xs : List TaskDef). length xs) known.sizes.same_tasks in omega arith) in
          let r = (l.leads q v within k).1 same in
          let e = same_Some l.state u (sym l.up ∙ g) in
          subst (λ (x : TaskState). x.rank ≤ v.rank) e r
    ]

-- of an open task, before the event
open_leads : (p : Project) (s : State) (t q : ℕ) (u v : TaskState) → Known p s → IsFirst s.table → state_of s.table t ≡ Some u → state_of s.table q ≡ Some v → (task s.table t).priority ≡ (task s.table q).priority → (is_open (Some u) ≡ true) ⊎ (chosen s.table ≡ Some t) → u.rank ≤ v.rank
open_leads p s t q u v known first g k same (inl o) = first t q u v g k o same
open_leads p s t q u v known first g k same (inr c) = chosen_leads p s t q u v known first c g k same

-- a task leads another of its priority after an event if it led it before, and was up
pub leads_after : (p : Project) (s : State) (t q : ℕ) (u v : TaskState) → Known p s → (k : KeepsRank s t u) → RankAfter s q v → ((w : TaskState) → state_of s.table q ≡ Some w → k.before.rank ≤ w.rank) → u.rank ≤ v.rank
leads_after p s t q u v known k (inl r) leads = (let a = leads r.before r.was in let b = k.same in let d = r.same in omega arith)
leads_after p s t q u v known k (inr r) leads = (let a = known.orderly.below t k.before k.was in let b = k.same in let d = r.above in omega arith)

-- the state of a task after an event
pub after_event : (p : Project) (s : State) (e : Event) (t : ℕ) (v : TaskState) → Known p s → state_of (step s e).state.table t ≡ Some v → RankAfter s t v
after_event p s e t v known g =
    let x = (step s e).state in
    let within : t < length p.tasks = (let a = within_states x.table.states t v g in let b = (event_keeps_sizes p s e known.sizes).states in omega arith) in
    let h = happens p s e t known within in
    rank_after s e t v h.change h.makes (sym (ap (λ (y : TaskView). y.state) h.view) ∙ g)

pub same_tasks : (p : Project) (s : State) (e : Event) (t : ℕ) → Known p s → task (step s e).state.table t ≡ task s.table t
same_tasks p s e t known = ap (λ (xs : List TaskDef). slice_index_or xs t no_task) ((event_keeps_sizes p s e known.sizes).same_tasks ∙ sym known.sizes.same_tasks)

first_next : (p : Project) (s : State) (e : Event) → Known p s → IsFirst s.table → IsFirst (step s e).state.table
first_next p s e known first t q u v g k o same =
    elim (after_event p s e t u known g) [
      | inl r ↦
          let same' : (task s.table t).priority ≡ (task s.table q).priority = sym (ap (λ (d : TaskDef). d.priority) (same_tasks p s e t known)) ∙ (same ∙ ap (λ (d : TaskDef). d.priority) (same_tasks p s e q known)) in
          leads_after p s t q u v known r (after_event p s e q v known k) (λ w h. open_leads p s t q r.before w known first r.was h same' (r.opens o))
      | inr n ↦ absurd (false≢true (sym n.closed ∙ o))
    ]

first_from : (p : Project) (s : State) (es : List Event) → IsReached p s → IsFirst s.table → IsFirst (run_from s es).table
first_from p s [] h first = first
first_from p s (e ∷ es) h first = first_from p (step s e).state es (reached_next p s e h) (first_next p s e (known_at p s h) first)

pub open_is_first : OpenIsFirst
open_is_first p journal = first_from p (start p) journal (reached_start p) (λ t q u v g k o same. absurd (none_up p.tasks t u g))

-- of a state that a journal leads to
pub first_at : (p : Project) (s : State) → IsReached p s → IsFirst s.table
first_at p s h = subst (λ (x : State). IsFirst x.table) h.is (open_is_first p h.journal)
