-- The laws of a tick: watchdogs and releases.
use Rattle.std.proofs.Common.{◌≡◌, ℕ, ◌+◌, ◌-◌, ◌<◌, Bool, true, false, List, length, Option, Some, None, refl, sym, ◌∙◌, ap, subst, arith}
use Rattle.std.specs.Prelude.{not, ◌&&◌, nat_eq, nat_le, is_some, slice_index_or}
use Rattle.std.proofs.lemmas.Bool.{and_from, eq-eqb, lt-ltb}
use Rattle.spec_tables.specs.declared.task.TaskDef.{TaskDef}
use Rattle.spec_tables.specs.declared.task.TaskKind.{TaskKind}
use Rattle.spec_tables.specs.declared.task.TaskKind.TheVariants.{Continuous, Periodic, Event as EventTask}
use Rattle.spec_tables.specs.Tasks.{TaskState, no_task, task, state_of, is_up, chosen, with_rank, rotate, expired, has_expired, divides_by_period}
use Rattle.spec_machine.specs.declared.answer.TickReport.{TickReport}
use Rattle.spec_machine.specs.declared.answer.Moment.{Moment}
use Rattle.spec_machine.specs.declared.answer.What.{What}
use Rattle.spec_machine.specs.declared.answer.What.TheVariants as what
use Rattle.spec_machine.specs.declared.event.Event.{Event}
use Rattle.spec_machine.specs.declared.event.Event.TheVariants.{Cpu, Tick, Act}
use Rattle.spec_machine.specs.declared.reply.Mode.{Mode}
use Rattle.spec_machine.specs.declared.reply.Mode.TheVariants.{Program, Run, Faulted}
use Rattle.spec_machine.specs.Machine.{after_tick}
use Rattle.spec_machine.specs.ProcessorStep.{processor_step}
use Rattle.spec_machine.specs.Project.{Project}
use Rattle.spec_machine.specs.State.{State, Answered}
use Rattle.spec_machine.specs.Ticks.{release_due, after_watchdogs, in_mode}
use Rattle.spec_machine.specs.ValidProject.{IsValidProject}
use Rattle.spec_schedule.specs.declared.trace.TraceEvent.{TraceEvent}
use Rattle.spec_schedule.specs.declared.trace.TraceEvent.TheVariants as event
use Rattle.spec_schedule.specs.Counting.{Counted, uncounted, Numbers, CountedEvent}
use Rattle.spec_schedule.specs.TraceView.{step_seen, seen}
use Rattle.spec_reach.proofs.Changes.{Known}
use Rattle.spec_reach.proofs.Reached.{known_at}
use Rattle.spec_reach.proofs.Sizes.{unless_open_keeps}
use Rattle.spec_reach.proofs.Ticks.{Turned, NoTurn, Turn, turned}
use Rattle.spec_legal.proofs.Along.{place}
use Rattle.spec_legal.proofs.Priority.{up_counted}
use Rattle.spec_laws.specs.CountedBack.{ticks_up, ticks_in_run}
use Rattle.spec_laws.specs.Watchdogs.{is_first_out, keeps_watchdogs}
use Rattle.spec_laws.specs.TickReleases.{mask_below, are_periods, is_due, comes_up, overlaps, keeps_releases}
use Rattle.spec_laws.proofs.Expired.{IsFirst, first_out, none_out, none_before}
use Rattle.spec_laws.proofs.Masks.{is_allowed, is_new, is_again, walked}
use Rattle.spec_laws.proofs.Moves.{IsClock, rotate_since}
use Rattle.spec_laws.proofs.Places.{Stands}
use Rattle.spec_laws.proofs.Numbers.{mask_same, mask_none}

-- ---- a rank says nothing of a watchdog or of being up

rank_expired : (now n : ℕ) (d : TaskDef) (o : Option TaskState) → has_expired now d (with_rank n o) ≡ has_expired now d o
rank_expired now n d None = refl
rank_expired now n d (Some u) = refl

rank_up : (n : ℕ) (o : Option TaskState) → is_some (with_rank n o) ≡ is_some o
rank_up n None = refl
rank_up n (Some u) = refl

same_periods : (n : ℕ) (k : TaskKind) → divides_by_period n k ≡ are_periods n k
same_periods n Continuous = refl
same_periods n (Periodic m) = refl
same_periods n EventTask = refl

module _ (p : Project) (valid : IsValidProject p) (s : State) (cs : List Counted) (ns : List Numbers) (past : List CountedEvent) (h : Stands p s cs past) where
  known : Known p s
  known = known_at p s h.place.reached

  abbrev count : ℕ → Counted
  count t = slice_index_or cs t uncounted

  abbrev def : ℕ → TaskDef
  def t = slice_index_or p.tasks t no_task

  -- a place with this event
  abbrev with_event : TraceEvent → CountedEvent
  with_event e = record { tasks = cs; programs = ns; event = e }

  -- a task is out, by what is counted
  abbrev out : ℕ → Bool
  out t = (count t).up && nat_le (def t).watchdog (ticks_up t cs past + 1)

  is_out : (t : ℕ) → t < length p.tasks → has_expired (s.tick + 1) (def t) (state_of s.table t) ≡ out t
  is_out t l = go (state_of s.table t) refl
    where
      go : (o : Option TaskState) → state_of s.table t ≡ o → has_expired (s.tick + 1) (def t) o ≡ out t
      go None g = sym (ap (λ b. b && nat_le (def t).watchdog (ticks_up t cs past + 1)) ((h.place.mirrors.shows t l).up ∙ ap is_some g))
      go (Some u) g =
          let a = h.ages t u g in
          ap (λ n. nat_le (def t).watchdog n) (let z : s.tick + 1 - u.start ≡ ticks_up t cs past + 1 = omega arith in z)
          ∙ sym (ap (λ b. b && nat_le (def t).watchdog (ticks_up t cs past + 1)) (up_counted p valid s cs h.place t u g))

  -- ---- a tick in Run

  module _ (mode : s.mode ≡ Run) where
    abbrev s1 : State
    s1 = record s { tick = s.tick + 1; table = rotate s.table }

    same_defs : s1.table.defs ≡ p.tasks
    same_defs = (unless_open_keeps (chosen s.table) s.table).defs ∙ known.sizes.same_tasks

    many : length s1.table.defs ≡ length p.tasks
    many = ap (λ (ds : List TaskDef). length ds) same_defs

    same_def : (t : ℕ) → task s1.table t ≡ def t
    same_def t = ap (λ (ds : List TaskDef). slice_index_or ds t no_task) same_defs

    turn_expired : (t : ℕ) (d : TaskDef) → Turned s (rotate s.table) t → has_expired (s.tick + 1) d (state_of s1.table t) ≡ has_expired (s.tick + 1) d (state_of s.table t)
    turn_expired t d (NoTurn v) = ap (λ w. has_expired (s.tick + 1) d w.state) v.1
    turn_expired t d (Turn v) = ap (λ w. has_expired (s.tick + 1) d w.state) v.1 ∙ rank_expired (s.tick + 1) s.table.next d (state_of s.table t)

    turn_up : (t : ℕ) → Turned s (rotate s.table) t → is_up s1.table t ≡ is_up s.table t
    turn_up t (NoTurn v) = ap (λ w. is_some w.state) v.1
    turn_up t (Turn v) = ap (λ w. is_some w.state) v.1 ∙ rank_up s.table.next (state_of s.table t)

    same_up : (t : ℕ) → t < length p.tasks → is_up s1.table t ≡ (count t).up
    same_up t l = turn_up t (turned p s known mode t) ∙ sym (h.place.mirrors.shows t l).up

    expires : (t : ℕ) → t < length s1.table.defs → has_expired (s.tick + 1) (task s1.table t) (state_of s1.table t) ≡ out (0 + t)
    expires t l =
        ap (λ (d : TaskDef). has_expired (s.tick + 1) d (state_of s1.table t)) (same_def t)
        ∙ (turn_expired t (def t) (turned p s known mode t) ∙ (is_out t (let m = many in omega arith) ∙ ap out (let z : t ≡ 0 + t = omega arith in z)))

    first : IsFirst (s.tick + 1) out 0 (length s1.table.defs) (expired s1.tick s1.table)
    first =
        first_out (s.tick + 1) out 0 s1.table.defs s1.table.states
        (let a = (unless_open_keeps (chosen s.table) s.table).states in let b = known.sizes.states in let m = many in omega arith) expires

    abbrev seen_after : Answered TickReport → TraceEvent
    seen_after x = seen p (after_tick x).answer

    watchdog_run : (o : Option ℕ) → IsFirst (s.tick + 1) out 0 (length s1.table.defs) o → keeps_watchdogs p.tasks past (with_event (seen_after (after_watchdogs s1 o))) ≡ true
    watchdog_run (Some t) f = and_from (out t) _ f.0 (none_before (s.tick + 1) out (length s1.table.defs) t f)
    watchdog_run None f =
        ap (λ o. is_first_out p.tasks past (with_event (seen_after (release_due s1))) o) (walked s1).watchdog
        ∙ none_out (s.tick + 1) out (length p.tasks) (subst (λ n. IsFirst (s.tick + 1) out 0 n None) many f)

    allowed : (t : ℕ) (o : Option ℕ) → IsClock s o → is_allowed s1 t ≡ is_due (def t) o
    allowed t None c = absurd (c mode)
    allowed t (Some n) c =
        let since = rotate_since (chosen s.table) s.table in
        let tick = c.1 in
        ap (λ b. (b && divides_by_period (s1.tick - s1.table.run_since) (task s1.table t).kind) && not (task s1.table t).inhibited) (lt-ltb s1.table.run_since s1.tick (omega arith))
        ∙ (ap (λ (d : TaskDef). divides_by_period (s1.tick - s1.table.run_since) d.kind && not d.inhibited) (same_def t)
        ∙ (ap (λ m. divides_by_period m (def t).kind && not (def t).inhibited) (let z : s1.tick - s1.table.run_since ≡ n + 1 = omega arith in z)
        ∙ ap (λ b. b && not (def t).inhibited) (same_periods (n + 1) (def t).kind)))

    new_same : (t : ℕ) → t < length p.tasks → is_new s1 t ≡ (is_due (def t) (ticks_in_run past) && not (count t).up)
    new_same t l =
        ap (λ b. b && not (is_up s1.table t)) (allowed t (ticks_in_run past) h.clock) ∙ ap (λ b. is_due (def t) (ticks_in_run past) && not b) (same_up t l)

    again_same : (t : ℕ) → t < length p.tasks → is_again s1 t ≡ (is_due (def t) (ticks_in_run past) && (count t).up)
    again_same t l =
        ap (λ b. b && is_up s1.table t) (allowed t (ticks_in_run past) h.clock) ∙ ap (λ b. is_due (def t) (ticks_in_run past) && b) (same_up t l)

    mask_of_run : (f g : ℕ → Bool) → ((t : ℕ) → t < length p.tasks → f t ≡ g t) → mask_below f (length s1.table.defs) ≡ mask_below g (length p.tasks)
    mask_of_run f g e = ap (mask_below f) many ∙ mask_same f g (length p.tasks) e

    release_run : (o : Option ℕ) → keeps_releases p.tasks past (with_event (seen_after (after_watchdogs s1 o))) ≡ true
    release_run (Some t) = refl
    release_run None =
        let w = walked s1 in
        let x = release_due s1 in
        let y = with_event (seen_after x) in
        ap (λ o. keeps_releases p.tasks past (with_event (event.Tick x.answer.released x.answer.overlapped o))) w.watchdog
        ∙ and_from (nat_eq x.answer.released (mask_below (comes_up p.tasks past y) (length p.tasks))) (nat_eq x.answer.overlapped (mask_below (overlaps p.tasks past y) (length p.tasks)))
        (eq-eqb x.answer.released _ (w.released ∙ mask_of_run (is_new s1) (comes_up p.tasks past y) new_same))
        (eq-eqb x.answer.overlapped _ (w.overlapped ∙ mask_of_run (is_again s1) (overlaps p.tasks past y) again_same))

  -- ---- a tick outside Run

  module _ (other : s.mode ≡ Run → ⊥) where
    none_up : (t : ℕ) → t < length p.tasks → out t ≡ false
    none_up t l = go (state_of s.table t) refl
      where
        go : (o : Option TaskState) → state_of s.table t ≡ o → out t ≡ false
        go None g = ap (λ b. b && nat_le (def t).watchdog (ticks_up t cs past + 1)) ((h.place.mirrors.shows t l).up ∙ ap is_some g)
        go (Some u) g = absurd (other (known.orderly.in_run t u g))

    watchdog_quiet : keeps_watchdogs p.tasks past (with_event (event.Tick 0 0 None)) ≡ true
    watchdog_quiet = none_out (s.tick + 1) out (length p.tasks) (λ k a b. none_up k (omega arith))

    none_due : (t : ℕ) (o : Option ℕ) → IsClock s o → is_due (def t) o ≡ false
    none_due t None c = refl
    none_due t (Some n) c = absurd (other c.0)

    release_quiet : keeps_releases p.tasks past (with_event (event.Tick 0 0 None)) ≡ true
    release_quiet =
        let y = with_event (event.Tick 0 0 None) in
        and_from (nat_eq 0 (mask_below (comes_up p.tasks past y) (length p.tasks))) (nat_eq 0 (mask_below (overlaps p.tasks past y) (length p.tasks)))
        (eq-eqb 0 _ (sym (mask_none (comes_up p.tasks past y) (length p.tasks) (λ t. ap (λ b. b && not (count t).up) (none_due t (ticks_in_run past) h.clock)))))
        (eq-eqb 0 _ (sym (mask_none (overlaps p.tasks past y) (length p.tasks) (λ t. ap (λ b. b && (count t).up) (none_due t (ticks_in_run past) h.clock)))))

  -- ---- an event

  abbrev is_not_run : Mode → Type 0
  is_not_run m = m ≡ Run → ⊥

  watchdog_mode : (m : Mode) → s.mode ≡ m → keeps_watchdogs p.tasks past (with_event (seen p (after_tick (in_mode m (record s { tick = s.tick + 1 }))).answer)) ≡ true
  watchdog_mode Run e = watchdog_run e (expired (s.tick + 1) (rotate s.table)) (first e)
  watchdog_mode Program e = watchdog_quiet (λ r. (let f : is_not_run Program = λ x. cc in f (sym e ∙ r)))
  watchdog_mode Faulted e = watchdog_quiet (λ r. (let f : is_not_run Faulted = λ x. cc in f (sym e ∙ r)))

  release_mode : (m : Mode) → s.mode ≡ m → keeps_releases p.tasks past (with_event (seen p (after_tick (in_mode m (record s { tick = s.tick + 1 }))).answer)) ≡ true
  release_mode Run e = release_run e (expired (s.tick + 1) (rotate s.table))
  release_mode Program e = release_quiet (λ r. (let f : is_not_run Program = λ x. cc in f (sym e ∙ r)))
  release_mode Faulted e = release_quiet (λ r. (let f : is_not_run Faulted = λ x. cc in f (sym e ∙ r)))

  -- nothing is asked of a processor step
  watchdog_step : (m : Moment) (w : What) → keeps_watchdogs p.tasks past (with_event (step_seen m w)) ≡ true
  watchdog_step m what.Idle = refl
  watchdog_step m (what.Began t n v) = refl
  watchdog_step m (what.Ran t n) = refl
  watchdog_step m (what.Copied t n) = refl
  watchdog_step m (what.Left t n ended) = refl

  release_step : (m : Moment) (w : What) → keeps_releases p.tasks past (with_event (step_seen m w)) ≡ true
  release_step m what.Idle = refl
  release_step m (what.Began t n v) = refl
  release_step m (what.Ran t n) = refl
  release_step m (what.Copied t n) = refl
  release_step m (what.Left t n ended) = refl

  pub watchdogs_here : (e : Event) → keeps_watchdogs p.tasks past (place p s cs ns e) ≡ true
  watchdogs_here Cpu = watchdog_step (processor_step s).answer (processor_step s).answer.what
  watchdogs_here Tick = watchdog_mode s.mode refl
  watchdogs_here (Act lane a) = refl

  pub releases_here : (e : Event) → keeps_releases p.tasks past (place p s cs ns e) ≡ true
  releases_here Cpu = release_step (processor_step s).answer (processor_step s).answer.what
  releases_here Tick = release_mode s.mode refl
  releases_here (Act lane a) = refl
