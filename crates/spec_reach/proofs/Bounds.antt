-- How large the numbers of a state are after so many events.
use Rattle.std.proofs.Common.{◌≡◌, ℕ, zero, suc, ◌+◌, ◌*◌, ◌≤◌, ◌⊎◌, inl, inr, Bool, true, false, List, [], ◌∷◌, length, map, Option, Some, None, refl, sym, ◌∙◌, ap, subst, arith}
use Rattle.std.specs.Prelude.{Result, Ok, Err, slice_set}
use Rattle.std.proofs.lemmas.Bool.{cases_lt}
use Rattle.std.proofs.lemmas.Option.{same_Some}
use Rattle.spec_base.proofs.Binds.{ok_inj, err_not_ok}
use Rattle.spec_tables.specs.declared.task.TaskDef.{TaskDef}
use Rattle.spec_tables.specs.Tasks.{TaskState, state_of, region_count, with_region_count, with_rank}
use Rattle.spec_tables.proofs.StateLists.{chosen_up, none_up}
use Rattle.spec_machine.specs.declared.reply.EditFault.{EditFault}
use Rattle.spec_machine.specs.declared.event.Event.{Event}
use Rattle.spec_machine.specs.declared.event.Event.TheVariants as events
use Rattle.spec_machine.specs.declared.event.Action.{Action}
use Rattle.spec_machine.specs.declared.event.Action.TheVariants as action
use Rattle.spec_machine.specs.Edits.{Book, book_of, book_at, Edited, edit, scope_of, test, untest, assemble, cancel}
use Rattle.spec_machine.specs.Actions.{act}
use Rattle.spec_machine.specs.Machine.{step, run_from, run}
use Rattle.spec_machine.specs.Project.{Project, ProgramText}
use Rattle.spec_machine.specs.State.{State, start}
use Rattle.spec_schedule.specs.declared.trace.TraceMark.{TraceMark}
use Rattle.spec_schedule.specs.declared.trace.TraceMark.TheVariants.{Plain, Up, Down, Trigger, Copy, Sync, CopyEnd, SyncEnd}
use Rattle.spec_reach.specs.Bounds.{IsBounded, RunsAreBounded}
use Rattle.spec_reach.proofs.BookActions.{ActsOnBooks, Edits, Keeps, acts_on_books}
use Rattle.spec_reach.proofs.Books.{step_books, tick_books}
use Rattle.spec_reach.proofs.Changes.{TaskView, view_of, Change, Stays, Rotates, GoesDown, ComesUp, Restarts, Begins, Goes, Ends, marked_state, changed, tick_after, Makes, Known}
use Rattle.spec_reach.proofs.EditNames.{accepted_parts, is_accepted, IsChanged, is_changed}
use Rattle.spec_reach.proofs.Grows.{event_moves}
use Rattle.spec_reach.proofs.Reached.{IsReached, reached_start, reached_next, happens, known_at, past_view, start_view}
use Rattle.spec_reach.proofs.Sizes.{event_keeps_sizes}

-- ---- a task

-- a state after an event, by the one before: with its start, or started now; its regions are at most one more
pub record IsNear (s : State) (e : Event) (t : ℕ) (o : Option TaskState) : Type 0 where
  pub start : (v : TaskState) → o ≡ Some v → ((u : TaskState) × (state_of s.table t ≡ Some u) × (v.start ≡ u.start)) ⊎ (v.start ≡ tick_after s e)
  pub regions : region_count o ≤ region_count (state_of s.table t) + 1

-- a state that has the start of the one before
from_before : (s : State) (e : Event) (t : ℕ) (u w : TaskState) → state_of s.table t ≡ Some u → w.start ≡ u.start → w.region_count ≤ u.region_count + 1 → IsNear s e t (Some w)
from_before s e t u w up same l = record {
  start = λ v k. inl (u, up, sym (ap (λ (x : TaskState). x.start) (same_Some w v k)) ∙ same);
  regions = subst (λ (o : Option TaskState). w.region_count ≤ region_count o + 1) (sym up) l;
}

mark_near : (s : State) (e : Event) (t : ℕ) (m : TraceMark) (u : TaskState) → state_of s.table t ≡ Some u → IsNear s e t (marked_state m (Some u))
mark_near s e t Plain u up = from_before s e t u u up refl (omega arith)
mark_near s e t Up u up = from_before s e t u _ up refl (omega arith)
mark_near s e t Down u up = from_before s e t u _ up refl (omega arith)
mark_near s e t (Trigger q) u up = from_before s e t u u up refl (omega arith)
mark_near s e t Copy u up = from_before s e t u u up refl (omega arith)
mark_near s e t Sync u up = from_before s e t u _ up refl (omega arith)
mark_near s e t CopyEnd u up = from_before s e t u u up refl (omega arith)
mark_near s e t SyncEnd u up = from_before s e t u _ up refl (omega arith)

fresh_near : (s : State) (e : Event) (t now rank : ℕ) → now ≡ tick_after s e → IsNear s e t (Some (record { start = now; rank = rank; region_count = 0; cps_open = false }))
fresh_near s e t now rank is = record { start = λ v k. inr (sym (ap (λ (x : TaskState). x.start) (same_Some (record { start = now; rank = rank; region_count = 0; cps_open = false }) v k)) ∙ is); regions = omega arith }

same_near : (s : State) (e : Event) (t : ℕ) (o : Option TaskState) → state_of s.table t ≡ o → IsNear s e t o
same_near s e t None g = record { start = λ v k. absurd (cc k); regions = omega arith }
same_near s e t (Some u) g = from_before s e t u u g refl (omega arith)

near : (s : State) (e : Event) (t : ℕ) (c : Change) → Makes s e t c → IsNear s e t ((changed c (view_of s t)).state)
near s e t Stays m = same_near s e t (state_of s.table t) refl
near s e t (Rotates n) m = let u = chosen_up s.table t m.0.chosen in subst (λ (o : Option TaskState). IsNear s e t (with_rank n o)) (sym u.1) (from_before s e t u.0 _ u.1 refl (omega arith))
near s e t GoesDown m = record { start = λ v k. absurd (cc k); regions = omega arith }
near s e t (ComesUp now rank) m = fresh_near s e t now rank m.1.start
near s e t (Restarts now rank) m = fresh_near s e t now rank m.1.start
near s e t (Begins scan) m = same_near s e t (state_of s.table t) refl
near s e t (Goes mark scan) m = let u = chosen_up s.table t m.0.chosen in subst (λ (o : Option TaskState). IsNear s e t (marked_state mark o)) (sym u.1) (mark_near s e t mark u.0 u.1)
near s e t Ends m = let u = chosen_up s.table t m.0.chosen in subst (λ (o : Option TaskState). IsNear s e t (with_region_count 0 o)) (sym u.1) (from_before s e t u.0 _ u.1 refl (omega arith))

near_after : (p : Project) (s : State) (e : Event) (t : ℕ) → Known p s → IsNear s e t (state_of (step s e).state.table t)
near_after p s e t known =
    let x = (step s e).state in
    let sizes = event_keeps_sizes p s e known.sizes in
    elim (cases_lt t (length p.tasks)) [
      | inl l ↦ (let h = happens p s e t known l in subst (IsNear s e t) (sym (ap (λ (v : TaskView). v.state) h.view)) (near s e t h.change h.makes))
      | inr g ↦ subst (IsNear s e t) (sym (ap (λ (v : TaskView). v.state) (past_view x t (let a = sizes.states in omega arith) (let a = sizes.progresses in omega arith)))) (record { start = λ v k. absurd (cc k); regions = omega arith })
    ]

-- ---- the numbers of accepts

-- no book's number of its last accept grows by more than one
abbrev Newer : List Book → List Book → Type 0
Newer books after = (g : ℕ) → (book_at after g).newest ≤ (book_at books g).newest + 1

set_newer : (books : List Book) (n : ℕ) (b : Book) → b.newest ≤ (book_at books n).newest + 1 → Newer books (slice_set books n b)
set_newer [] n b l g = omega arith
set_newer (x ∷ xs) zero b l zero = l
set_newer (x ∷ xs) zero b l (suc g) = omega arith
set_newer (x ∷ xs) (suc n) b l zero = omega arith
set_newer (x ∷ xs) (suc n) b l (suc g) = set_newer xs n b l g

-- a change of a book that keeps the number
abbrev KeepsNewest : (Book → Result Book EditFault) → Type 0
KeepsNewest change = (b c : Book) → change b ≡ Ok c → c.newest ≡ b.newest

test_newest : KeepsNewest test
test_newest b c h = go b.testing h
  where
    go : (t : Bool) → test (record b { testing = t }) ≡ Ok c → c.newest ≡ b.newest
    go true h = err_not_ok _ c h
    go false h = sym (ap (λ (x : Book). x.newest) (ok_inj _ c h))

untest_newest : KeepsNewest untest
untest_newest b c h = go b.testing h
  where
    go : (t : Bool) → untest (record b { testing = t }) ≡ Ok c → c.newest ≡ b.newest
    go true h = sym (ap (λ (x : Book). x.newest) (ok_inj _ c h))
    go false h = err_not_ok _ c h

changed_newer : (change : Book → Result Book EditFault) (books : List Book) (lane : ℕ) (name : List ℕ) (e : Edited) → KeepsNewest change → IsChanged change books lane name e → Newer books e.books
changed_newer change books lane name e keeps x =
    let k = keeps (book_at books x.number) x.book x.changed in
    subst (λ (y : Edited). Newer books y.books) x.result (set_newer books x.number x.book (omega arith))

edit_newer : (s : State) (lane : ℕ) (a : Action) (e : Edited) → edit s.plan.tags s.plan.names s.books lane a ≡ Some (Ok e) → Newer s.books e.books
edit_newer s lane (action.Accept c) e h =
    let x = is_accepted s.plan.tags s.plan.names s.books lane c e (cc h) in
    let parts = accepted_parts (scope_of s.plan.tags s.plan.names x.number (book_at s.books x.number)) lane x.routine c.edits (book_at s.books x.number) x.book x.accepted in
    let k = ap (λ (b : Book). b.newest) parts.2 in
    subst (λ (y : Edited). Newer s.books y.books) x.result (set_newer s.books x.number x.book (omega arith))
edit_newer s lane (action.Test n) e h = changed_newer test s.books lane n e test_newest (is_changed test s.books lane n e (cc h))
edit_newer s lane (action.Untest n) e h = changed_newer untest s.books lane n e untest_newest (is_changed untest s.books lane n e (cc h))
edit_newer s lane (action.Assemble n) e h = changed_newer assemble s.books lane n e (λ b c k. sym (ap (λ (x : Book). x.newest) (ok_inj _ c k))) (is_changed assemble s.books lane n e (cc h))
edit_newer s lane (action.Cancel n) e h = changed_newer cancel s.books lane n e (λ b c k. sym (ap (λ (x : Book). x.newest) (ok_inj _ c k))) (is_changed cancel s.books lane n e (cc h))
edit_newer s lane _ e h = absurd (cc h)

same_newer : (books after : List Book) → after ≡ books → Newer books after
same_newer books after e g = subst (λ (bs : List Book). (book_at bs g).newest ≤ (book_at books g).newest + 1) (sym e) (omega arith)

act_newer : (s : State) (lane : ℕ) (a : Action) → ActsOnBooks s lane a → Newer s.books (act s lane a).state.books
act_newer s lane a (Keeps none same) = same_newer s.books (act s lane a).state.books same
act_newer s lane a (Edits (Err f) is acts) = same_newer s.books (act s lane a).state.books (ap (λ x. x.state.books) acts)
act_newer s lane a (Edits (Ok e) is acts) = subst (Newer s.books) (sym (ap (λ x. x.state.books) acts)) (edit_newer s lane a e is)

event_newer : (s : State) (e : Event) → Newer s.books (step s e).state.books
event_newer s events.Cpu = same_newer s.books _ (step_books s)
event_newer s events.Tick = same_newer s.books _ (tick_books s)
event_newer s (events.Act lane a) = act_newer s lane a (acts_on_books s lane a)

-- ---- along a run

ticks_on : (s : State) (e : Event) → (s.tick ≤ tick_after s e) × (tick_after s e ≤ s.tick + 1)
ticks_on s events.Cpu = (omega arith, omega arith)
ticks_on s events.Tick = (omega arith, omega arith)
ticks_on s (events.Act lane a) = (omega arith, omega arith)

one_more : (n next next' many : ℕ) → next ≤ n * (many + 1) → next' ≤ next + (many + 1) → next' ≤ (n + 1) * (many + 1)
one_more n next next' many h k = omega arith

bounded_next : (p : Project) (s : State) (e : Event) (n : ℕ) → Known p s → IsBounded n s → IsBounded (n + 1) (step s e).state
bounded_next p s e n known h =
    let x = (step s e).state in
    let m = event_moves s e in
    let t = ticks_on s e in
    let a = h.tick in
    let b = h.run_since in
    let same = m.tick in
    let many : length x.table.defs ≡ length s.table.defs = ap (λ (xs : List TaskDef). length xs) ((event_keeps_sizes p s e known.sizes).same_tasks ∙ sym known.sizes.same_tasks) in
    record {
      tick = (let l = t.1 in omega arith);
      run_since = (let l = t.0 in elim m.since [ inl f ↦ omega arith | inr f ↦ omega arith ]);
      starts = λ k u g.
          (let l = t.0 in
          elim ((near_after p s e k known).start u g) [
            | inl f ↦ (let r = h.starts k f.0 f.1 in let q = f.2 in omega arith)
            | inr f ↦ omega arith
          ]);
      regions = λ k. (let l = (near_after p s e k known).regions in let r = h.regions k in omega arith);
      next = subst (λ i. x.table.next ≤ (n + 1) * (i + 1)) (sym many) (one_more n s.table.next x.table.next (length s.table.defs) h.next m.next);
      newest = λ g. (let l = event_newer s e g in let r = h.newest g in omega arith);
    }

bounded_from : (p : Project) (s : State) (es : List Event) (n : ℕ) → IsReached p s → IsBounded n s → IsBounded (n + length es) (run_from s es)
bounded_from p s [] n r h = subst (λ i. IsBounded i s) (let e : n ≡ n + 0 = omega arith in e) h
bounded_from p s (e ∷ es) n r h =
    subst (λ i. IsBounded i (run_from (step s e).state es)) (let k : n + 1 + length es ≡ n + suc (length es) = omega arith in k)
    (bounded_from p (step s e).state es (n + 1) (reached_next p s e r) (bounded_next p s e n (known_at p s r) h))

start_newest : (qs : List ProgramText) (g : ℕ) → (book_at (map book_of qs) g).newest ≤ 0
start_newest [] g = omega arith
start_newest (q ∷ qs) zero = omega arith
start_newest (q ∷ qs) (suc g) = start_newest qs g

pub runs_are_bounded : RunsAreBounded
runs_are_bounded p journal =
    subst (λ i. IsBounded i (run p journal)) (let e : 0 + length journal ≡ length journal = omega arith in e)
    (bounded_from p (start p) journal 0 (reached_start p) (record {
      tick = omega arith;
      run_since = omega arith;
      starts = λ t u g. absurd (none_up p.tasks t u g);
      regions = λ t. subst (λ (v : TaskView). region_count v.state ≤ 0) (sym (start_view p t)) (omega arith);
      next = omega arith;
      newest = start_newest p.programs;
    }))
