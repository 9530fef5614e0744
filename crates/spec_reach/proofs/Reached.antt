-- What is known of a state that a journal leads to; it is known at each place of a run, and something happens to each task there.
use Rattle.std.proofs.Common.{◌≡◌, ℕ, ◌+◌, ◌<◌, ◌≤◌, inl, inr, false, List, [], ◌∷◌, ◌++◌, length, Option, Some, None, refl, sym, ◌∙◌, ap, subst, arith}
use Rattle.std.proofs.lemmas.Bool.{cases_lt}
use Rattle.std.proofs.lemmas.List.{get_or_past}
use Rattle.spec_tables.specs.Tasks.{TaskState, state_of, has_open_cps, with_rank, with_region_count}
use Rattle.spec_tables.proofs.StateLists.{chosen_up}
use Rattle.spec_machine.specs.declared.event.Event.{Event}
use Rattle.spec_machine.specs.declared.event.Event.TheVariants.{Cpu, Tick, Act}
use Rattle.spec_machine.specs.Project.{Project}
use Rattle.spec_machine.specs.State.{State, Scan, no_progress, progress_of, start}
use Rattle.spec_machine.specs.Machine.{step, run_from, run}
use Rattle.spec_machine.proofs.OrderlyRuns.{IsOrderly, run_orderly}
use Rattle.spec_reach.specs.Sizes.{KeepsSizes}
use Rattle.spec_reach.proofs.Views.{down_state, cleared_progress}
use Rattle.spec_schedule.specs.declared.trace.TraceMark.{TraceMark}
use Rattle.spec_schedule.specs.declared.trace.TraceMark.TheVariants.{Plain, Up, Down, Trigger, Copy, Sync, CopyEnd, SyncEnd}
use Rattle.spec_reach.specs.Scans.{ScansAgree, is_syncing, syncs}
use Rattle.spec_reach.proofs.Changes.{TaskView, view_at, view_of, IsSound, Change, Stays, Rotates, GoesDown, ComesUp, Restarts, Begins, Goes, Ends, fresh, marked_state, changed, CopyGoes, IsStepOf, Makes, Happens, Known}
use Rattle.spec_reach.proofs.Sizes.{event_keeps_sizes, runs_keep_sizes}
use Rattle.spec_reach.proofs.Steps.{at_step}
use Rattle.spec_reach.proofs.Ticks.{at_tick}
use Rattle.spec_reach.proofs.Acts.{at_action}

-- ---- soundness

abbrev pub view : Option TaskState → ℕ → Option Scan → TaskView
view u ended scan = record { state = u; ended = ended; scan = scan }

-- of a task that is down with no program begun, and of one that has just come up
none_sound : IsSound (view None 0 None)
none_sound = record { down = λ e. (refl, refl); closed = λ e. refl; agrees = refl }

fresh_sound : (now rank : ℕ) → IsSound (view (Some (fresh now rank)) 0 None)
fresh_sound now rank = record { down = λ e. absurd (cc e); closed = λ e. refl; agrees = refl }

rank_sound : (n : ℕ) (u : Option TaskState) (ended : ℕ) (scan : Option Scan) → IsSound (view u ended scan) → IsSound (view (with_rank n u) ended scan)
rank_sound n None ended scan h = h
rank_sound n (Some u) ended scan h = record { down = λ e. absurd (cc e); closed = h.closed; agrees = h.agrees }

-- of a task that is up and has a scan
scan_sound : (u : TaskState) (ended : ℕ) (scan : Scan) → u.cps_open ≡ is_syncing scan.position.copy → IsSound (view (Some u) ended (Some scan))
scan_sound u ended scan e = record { down = λ e. absurd (cc e); closed = λ e. absurd (cc e); agrees = e }

mark_sound : (m : TraceMark) (u : TaskState) (ended : ℕ) (before scan : Scan) → u.cps_open ≡ is_syncing before.position.copy → CopyGoes m before.position.copy scan.position.copy → IsSound (view (marked_state m (Some u)) ended (Some scan))
mark_sound Plain u ended before scan e c = scan_sound _ ended scan (e ∙ sym c)
mark_sound Up u ended before scan e c = scan_sound _ ended scan (e ∙ sym c)
mark_sound Down u ended before scan e c = scan_sound _ ended scan (e ∙ sym c)
mark_sound (Trigger t) u ended before scan e c = scan_sound _ ended scan (e ∙ sym c)
mark_sound Copy u ended before scan e c = scan_sound _ ended scan (e ∙ sym c)
mark_sound Sync u ended before scan e c = scan_sound _ ended scan (sym c.1)
mark_sound CopyEnd u ended before scan e c = scan_sound _ ended scan (e ∙ sym c)
mark_sound SyncEnd u ended before scan e c = scan_sound _ ended scan (sym c.1)

module _ (s : State) (e : Event) (t : ℕ) (sound : IsSound (view_of s t)) where
  -- the task of a step is up
  abbrev IsUpHere : Type 0
  IsUpHere = (u : TaskState) × (state_of s.table t ≡ Some u)

  up_here : IsStepOf s e t → IsUpHere
  up_here h = let u = chosen_up s.table t h.chosen in (u.0, u.1)

  flag_of : (u : TaskState) → state_of s.table t ≡ Some u → u.cps_open ≡ syncs (progress_of s t).scan
  flag_of u up = ap has_open_cps (sym up) ∙ sound.agrees

  changed_sound : (c : Change) → Makes s e t c → IsSound (changed c (view_of s t))
  changed_sound Stays m = sound
  changed_sound (Rotates n) m = rank_sound n (state_of s.table t) (progress_of s t).ended (progress_of s t).scan sound
  changed_sound GoesDown m = none_sound
  changed_sound (ComesUp now rank) m = fresh_sound now rank
  changed_sound (Restarts now rank) m = fresh_sound now rank
  changed_sound (Begins scan) m =
      let u = up_here m.0 in
      let closed : is_syncing scan.position.copy ≡ false = ap (λ (x : Scan). is_syncing x.position.copy) m.2 in
      subst (λ (o : Option TaskState). IsSound (view o (progress_of s t).ended (Some scan))) (sym u.1) (scan_sound u.0 (progress_of s t).ended scan (flag_of u.0 u.1 ∙ (ap syncs m.1 ∙ sym closed)))
  changed_sound (Goes mark scan) m =
      let u = up_here m.0 in
      subst (λ (o : Option TaskState). IsSound (view (marked_state mark o) (progress_of s t).ended (Some scan))) (sym u.1)
      (mark_sound mark u.0 (progress_of s t).ended m.1.before scan (flag_of u.0 u.1 ∙ ap syncs m.1.was) m.1.copy)
  changed_sound Ends m =
      let u = up_here m.0 in
      subst (λ (o : Option TaskState). IsSound (view (with_region_count 0 o) ((progress_of s t).ended + 1) None)) (sym u.1)
      (record { down = λ e. absurd (cc e); closed = λ e. refl; agrees = ap has_open_cps (sym u.1) ∙ m.2 })

-- ---- what happens at an event

pub happens : (p : Project) (s : State) (e : Event) (t : ℕ) → Known p s → t < length p.tasks → Happens p s e t
happens p s Cpu t known l = at_step p s known t l
happens p s Tick t known l = at_tick p s known t l
happens p s (Act lane a) t known l = at_action p s known lane t l a

sound_within : (p : Project) (s : State) (e : Event) (t : ℕ) → Known p s → t < length p.tasks → IsSound (view_of (step s e).state t)
sound_within p s e t known l =
    let h = happens p s e t known l in
    subst IsSound (sym h.view) (changed_sound s e t (known.sound t) h.change h.makes)

-- what is seen of a place that is no task
pub past_view : (s : State) (t : ℕ) → length s.table.states ≤ t → length s.progress ≤ t → view_of s t ≡ view None 0 None
past_view s t ls lp = ap (λ u. view_at u (progress_of s t)) (get_or_past s.table.states t None ls) ∙ ap (view_at None) (get_or_past s.progress t no_progress lp)

-- ---- along a run

run_on : (s : State) (xs ys : List Event) → run_from s (xs ++ ys) ≡ run_from (run_from s xs) ys
run_on s [] ys = refl
run_on s (x ∷ xs) ys = run_on (step s x).state xs ys

-- one event more
pub run_more : (p : Project) (journal : List Event) (e : Event) → run p (journal ++ e ∷ []) ≡ (step (run p journal) e).state
run_more p journal e = run_on (start p) journal (e ∷ [])

-- a state that a journal leads to
pub record IsReached (p : Project) (s : State) : Type 0 where
  pub journal : List Event
  pub is : run p journal ≡ s

pub reached_start : (p : Project) → IsReached p (start p)
reached_start p = record { journal = []; is = refl }

pub reached_next : (p : Project) (s : State) (e : Event) → IsReached p s → IsReached p (step s e).state
reached_next p s e h = record { journal = h.journal ++ e ∷ []; is = run_more p h.journal e ∙ ap (λ (x : State). (step x e).state) h.is }

-- what each event keeps, and what is known of such states
known_from : (p : Project) (s : State) → IsReached p s → ((t : ℕ) → IsSound (view_of s t)) → Known p s
known_from p s h sound = record {
  sizes = subst (KeepsSizes p) h.is (runs_keep_sizes p h.journal);
  orderly = subst IsOrderly h.is (run_orderly p h.journal);
  sound = sound;
}

pub known_next : (p : Project) (s : State) (e : Event) → IsReached p s → Known p s → Known p (step s e).state
known_next p s e h known = known_from p x r all_sound
  where
    x : State
    x = (step s e).state

    r : IsReached p x
    r = reached_next p s e h

    sizes : KeepsSizes p x
    sizes = event_keeps_sizes p s e known.sizes

    all_sound : (t : ℕ) → IsSound (view_of x t)
    all_sound t =
        elim (cases_lt t (length p.tasks)) [
          | inl l ↦ sound_within p s e t known l
          | inr g ↦ subst IsSound (sym (past_view x t (let a = sizes.states in omega arith) (let a = sizes.progresses in omega arith))) none_sound
        ]

pub start_view : (p : Project) (t : ℕ) → view_of (start p) t ≡ view None 0 None
start_view p t = ap (λ u. view_at u (progress_of (start p) t)) (down_state p.tasks t) ∙ ap (view_at None) (cleared_progress p.tasks t)

pub known_start : (p : Project) → Known p (start p)
known_start p = known_from p (start p) (reached_start p) (λ t. subst IsSound (sym (start_view p t)) none_sound)

known_on : (p : Project) (s : State) (es : List Event) → IsReached p s → Known p s → Known p (run_from s es)
known_on p s [] h known = known
known_on p s (e ∷ es) h known = known_on p (step s e).state es (reached_next p s e h) (known_next p s e h known)

pub run_known : (p : Project) (journal : List Event) → Known p (run p journal)
run_known p journal = known_on p (start p) journal (reached_start p) (known_start p)

pub known_at : (p : Project) (s : State) → IsReached p s → Known p s
known_at p s h = subst (Known p) h.is (run_known p h.journal)

-- the scan of a task agrees with the table
pub scans_agree : ScansAgree
scans_agree p journal t = let h = (run_known p journal).sound t in record { down = h.down; closed = h.closed; copies = h.agrees }
