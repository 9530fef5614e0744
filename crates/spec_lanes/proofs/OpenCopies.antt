-- The CPS that is open: a tick or an action leaves it or drops it, and a processor step takes an element from it.
use Rattle.std.proofs.Common.{◌≡◌, ℕ, suc, ◌+◌, ◌-◌, ◌<◌, ◌≤◌, inl, inr, Bool, true, false, List, [], ◌∷◌, length, get_or-set_same, get_or-set_other, Option, Some, None, refl, sym, ◌∙◌, ap, subst, arith}
use Rattle.std.specs.Prelude.{nat_lt, nat_le, slice_index_or}
use Rattle.std.specs.List.{list_any}
use Rattle.std.proofs.lemmas.Option.{same_Some}
use Rattle.std.proofs.lemmas.Bool.{false≢true, or_cases, cases_eq, leb-false, ltb-true, ltb-false}
use Rattle.spec_base.specs.declared.limits.TheConstants.{MAX_IMAGE_BYTES}
use Rattle.spec_tables.specs.Tasks.{TaskState, state_of, has_open_cps, with_cps_open, with_rank, chosen, held}
use Rattle.spec_scan.specs.declared.bound.Copying.{Copying}
use Rattle.spec_scan.specs.Copies.{after_element}
use Rattle.spec_machine.specs.declared.answer.Moment.{Moment}
use Rattle.spec_machine.specs.declared.event.Event.{Event}
use Rattle.spec_machine.specs.declared.event.Event.TheVariants as events
use Rattle.spec_machine.specs.Machine.{step}
use Rattle.spec_machine.specs.Project.{Project}
use Rattle.spec_machine.specs.State.{State, Scan, Progress, no_progress, progress_of, Answered}
use Rattle.spec_machine.specs.ValidProject.{IsValidProject}
use Rattle.spec_reach.specs.Scans.{is_syncing, syncs}
use Rattle.spec_reach.proofs.Changes.{TaskView, view_of, Change, Stays, Rotates, GoesDown, ComesUp, Restarts, Begins, Goes, Ends, changed, Makes}
use Rattle.spec_reach.proofs.Reached.{IsReached, happens, known_at, reached_next}
use Rattle.spec_reach.proofs.Views.{IsChosen, within_states, chosen_known}
use Rattle.spec_copies.specs.Standing.{CopiesIn}
use Rattle.spec_copies.proofs.Standing.{stands_at, few_bytes}
use Rattle.spec_copies.proofs.WholeCopies.{any_held, rest_copy, stepped, copying, open_is_chosen}
use Rattle.spec_lanes.specs.Served.{HasOpenCps}

-- ---- open and held

held_from : (us : List (Option TaskState)) → list_any has_open_cps us ≡ true → (t : ℕ) × (has_open_cps (slice_index_or us t None) ≡ true)
held_from [] h = absurd (false≢true h)
held_from (u ∷ us) h =
    elim (or_cases (has_open_cps u) (list_any has_open_cps us) h) [
      | inl here ↦ (0, here)
      | inr there ↦ (let later = held_from us there in (suc later.0, later.1))
    ]

up_state : (o : Option TaskState) → has_open_cps o ≡ true → (u : TaskState) × (o ≡ Some u)
up_state None h = absurd (false≢true h)
up_state (Some u) h = (u, refl)

syncing : (o : Option Copying) → is_syncing o ≡ true → (c : Copying) × (o ≡ Some c)
syncing None h = absurd (false≢true h)
syncing (Some c) h = (c, refl)

scanning : (o : Option Scan) → syncs o ≡ true → (scan : Scan) × (o ≡ Some scan) × (is_syncing scan.position.copy ≡ true)
scanning None h = absurd (false≢true h)
scanning (Some scan) h = (scan, refl, h)

-- a task with an open CPS is in the table
pub within : (p : Project) (s : State) (t : ℕ) → IsReached p s → has_open_cps (state_of s.table t) ≡ true → t < length p.tasks
within p s t r h =
    let u = up_state (state_of s.table t) h in
    let l = within_states s.table.states t u.0 u.1 in
    let k = (known_at p s r).sizes.states in
    omega arith

-- an open CPS has its copy in progress
pub has_copy : (p : Project) (s : State) (t : ℕ) → IsReached p s → has_open_cps (state_of s.table t) ≡ true → (c : Copying) × HasOpenCps s t c
has_copy p s t r h =
    let syncing_now = sym ((known_at p s r).sound t).agrees ∙ h in
    let scan = scanning (progress_of s t).scan syncing_now in
    let copy = syncing scan.0.position.copy scan.2 in
    (copy.0, record { flag = h; scan = scan.0; stands = scan.1; copy = copy.1 })

-- if one is open some task has it
pub held_by : (p : Project) (s : State) → IsReached p s → held s.table ≡ true → (t : ℕ) × (c : Copying) × HasOpenCps s t c
held_by p s r h = let some = held_from s.table.states h in let copy = has_copy p s some.0 r some.1 in (some.0, copy.0, copy.1)

pub open_is_held : (s : State) (t : ℕ) (c : Copying) → HasOpenCps s t c → held s.table ≡ true
open_is_held s t c h = any_held s.table.states t h.flag

-- ---- a tick or an action

rank_keeps : (n : ℕ) (u : Option TaskState) → has_open_cps (with_rank n u) ≡ has_open_cps u
rank_keeps n None = refl
rank_keeps n (Some u) = refl

-- what is open after it was open before, with the same scan
pub record WasOpen (s : State) (t : ℕ) (v : TaskView) : Type 0 where
  pub flag : has_open_cps (state_of s.table t) ≡ true
  pub same : v.scan ≡ (progress_of s t).scan

was_open : (s : State) (e : Event) (t : ℕ) (x : Change) → (e ≡ events.Cpu → ⊥) → Makes s e t x → has_open_cps (changed x (view_of s t)).state ≡ true → WasOpen s t (changed x (view_of s t))
was_open s e t Stays other m h = record { flag = h; same = refl }
was_open s e t (Rotates n) other m h = record { flag = sym (rank_keeps n (state_of s.table t)) ∙ h; same = refl }
was_open s e t GoesDown other m h = absurd (false≢true h)
was_open s e t (ComesUp now rank) other m h = absurd (false≢true h)
was_open s e t (Restarts now rank) other m h = absurd (false≢true h)
was_open s e t (Begins scan) other m h = absurd (other m.0.step)
was_open s e t (Goes mark scan) other m h = absurd (other m.0.step)
was_open s e t Ends other m h = absurd (other m.0.step)

pub open_before : (p : Project) (s : State) (e : Event) (t : ℕ) (c : Copying) → (e ≡ events.Cpu → ⊥) → IsReached p s → HasOpenCps (step s e).state t c → HasOpenCps s t c
open_before p s e t c other r h =
    let next = (step s e).state in
    let x = happens p s e t (known_at p s r) (within p next t (reached_next p s e r) h.flag) in
    let opened = sym (ap (λ (v : TaskView). has_open_cps v.state) x.view) ∙ h.flag in
    let was = was_open s e t x.change other x.makes opened in
    record {
      flag = was.flag;
      scan = h.scan;
      stands = sym was.same ∙ (sym (ap (λ (v : TaskView). v.scan) x.view) ∙ h.stands);
      copy = h.copy;
    }

-- so none opens one
pub held_before : (p : Project) (s : State) (e : Event) → (e ≡ events.Cpu → ⊥) → IsReached p s → held (step s e).state.table ≡ true → held s.table ≡ true
held_before p s e other r h =
    let some = held_by p (step s e).state (reached_next p s e r) h in
    open_is_held s some.0 some.1 (open_before p s e some.0 some.1 other r some.2)

pub closed_after : (p : Project) (s : State) (e : Event) → (e ≡ events.Cpu → ⊥) → IsReached p s → held s.table ≡ false → held (step s e).state.table ≡ false
closed_after p s e other r h = go (held (step s e).state.table) refl
  where
    go : (b : Bool) → held (step s e).state.table ≡ b → b ≡ false
    go false k = refl
    go true k = absurd (false≢true (sym h ∙ held_before p s e other r k))

-- ---- a processor step

closes : (u : Option TaskState) → has_open_cps (with_cps_open false u) ≡ false
closes None = refl
closes (Some u) = refl

-- An element is taken: what is open after the step is this copy with one fewer.
pub record TakesElement (s : State) (t : ℕ) (c : Copying) : Type 0 where
  pub before : Copying
  pub had : HasOpenCps s t before
  pub fewer : before.left ≡ c.left + 1

module _ (p : Project) (s : State) (r : IsReached p s) (t : ℕ) (now : Copying) (h : HasOpenCps s t now) where
  is_chosen : chosen s.table ≡ Some t
  is_chosen = open_is_chosen p s t r h.flag

  in_lists : IsChosen p s t
  in_lists = chosen_known p s t (known_at p s r) is_chosen

  abbrev after : Bool → Bool → State
  after done more = (stepped s t h.scan now done now.sync (rest_copy now more)).state

  -- an open one is this task's
  same_task : (q : ℕ) → has_open_cps (state_of s.table q) ≡ true → q ≡ t
  same_task q opened = same_Some q t (sym (open_is_chosen p s q r opened) ∙ is_chosen)

  -- the last element: none is open
  none_open : (more : Bool) (q : ℕ) → has_open_cps (state_of (after true more).table q) ≡ true → ⊥
  none_open more q opened =
      elim (cases_eq q t) [
        | inl same ↦ false≢true (sym (closes (state_of s.table t)) ∙ (sym (ap has_open_cps (get_or-set_same s.table.states t (with_cps_open false (state_of s.table t)) None in_lists.in_states)) ∙ subst (λ k. has_open_cps (state_of (after true more).table k) ≡ true) same opened))
        | inr other ↦ other (same_task q (sym (ap has_open_cps (get_or-set_other s.table.states t q (with_cps_open false (state_of s.table t)) None other)) ∙ opened))
      ]

  -- another element: the copy goes on
  goes_on : (q : ℕ) (c : Copying) → HasOpenCps (after false true) q c → 1 < now.left → TakesElement s q c
  goes_on q c k many =
      let same : q ≡ t = same_task q k.flag in
      let progress : Progress = record { ended = (progress_of s t).ended; scan = Some (record h.scan { position = record h.scan.position { copy = Some (after_element now) } }); flags = (progress_of s t).flags } in
      let own : progress_of (after false true) t ≡ progress = get_or-set_same s.progress t progress no_progress in_lists.in_progress in
      let stands : (progress_of (after false true) t).scan ≡ Some k.scan = subst (λ i. (progress_of (after false true) i).scan ≡ Some k.scan) same k.stands in
      let moved : Scan = record h.scan { position = record h.scan.position { copy = Some (after_element now) } } in
      let scan : moved ≡ k.scan = same_Some moved k.scan (sym (ap (λ (x : Progress). x.scan) own) ∙ stands) in
      let copy : after_element now ≡ c = same_Some (after_element now) c (ap (λ (x : Scan). x.position.copy) scan ∙ k.copy) in
      let left : now.left - 1 ≡ c.left = ap (λ (x : Copying). x.left) copy in
      record {
        before = now;
        had = subst (λ i. HasOpenCps s i now) (sym same) h;
        fewer = omega arith;
      }

  by_left : (done more : Bool) → nat_le now.left 1 ≡ done → nat_lt 1 now.left ≡ more → (q : ℕ) (c : Copying) → HasOpenCps (after done more) q c → TakesElement s q c
  by_left true more d m q c k = absurd (none_open more q k.flag)
  by_left false true d m q c k = goes_on q c k (ltb-true 1 now.left m)
  by_left false false d m q c k = absurd (let a = ltb-false 1 now.left m in let b = leb-false now.left 1 d in omega arith)

  pub takes_element : (q : ℕ) (c : Copying) → HasOpenCps (step s events.Cpu).state q c → TakesElement s q c
  takes_element q c k =
      by_left (nat_le now.left 1) (nat_lt 1 now.left) refl refl q c
      (subst (λ (x : Answered Moment). HasOpenCps x.state q c) (copying s t h.scan now is_chosen h.stands h.copy) k)

-- ---- how much is left

pub left_few : (p : Project) (s : State) (t : ℕ) (c : Copying) → IsValidProject p → IsReached p s → HasOpenCps s t c → (0 < c.left) × (c.left ≤ MAX_IMAGE_BYTES)
left_few p s t c valid r h =
    let stands = stands_at p valid s t h.scan r h.stands in
    let copy = subst (CopiesIn (length p.image)) h.copy stands.copy in
    let size = few_bytes p valid in
    let few = copy.few in
    (copy.some, omega arith)
