-- What is seen of a run keeps the law of starts.
use Rattle.std.proofs.Common.{◌≡◌, ℕ, zero, suc, ◌+◌, ◌^◌, ◌<◌, ◌≤◌, inl, inr, Bool, true, false, cond, List, [], ◌∷◌, length, Option, Some, None, refl, sym, ◌∙◌, ap, subst, arith}
use Rattle.std.specs.Prelude.{ℤ, not, ◌&&◌, nat_eq, nat_le, nat_lt, unwrap_or, slice_index_or}
use Rattle.std.specs.Bool.{beq as agree}
use Rattle.std.specs.List.{list_all}
use Rattle.std.proofs.lemmas.Bool.{and_from, and_parts, or_right, cases_eq, cases_lt, eq-eqb, ne_eqb, ltb-true}
use Rattle.std.proofs.lemmas.List.{get_or_past}
use Rattle.spec_tables.specs.declared.conn.ConnDef.{ConnDef}
use Rattle.spec_tables.specs.declared.conn.ConnFault.TheVariants.{N1, N2, N3}
use Rattle.spec_tables.specs.declared.task.TaskDef.{TaskDef}
use Rattle.spec_tables.specs.Connections.{no_conn, conn_named}
use Rattle.spec_tables.specs.Tasks.{no_task, task, is_up, is_continuous, held}
use Rattle.spec_machine.specs.declared.answer.Moment.{Moment}
use Rattle.spec_machine.specs.declared.answer.Outcome.{Outcome}
use Rattle.spec_machine.specs.declared.answer.What.{What}
use Rattle.spec_machine.specs.declared.answer.What.TheVariants as what
use Rattle.spec_machine.specs.declared.event.Action.{Action}
use Rattle.spec_machine.specs.declared.event.Action.TheVariants.{WordIn, WordOut, Accept, Test, Untest, Assemble, Cancel, ForceInstall, ForceEnable, ForceDisable, ForceRemove, ModeRun, ModeProgram, Clear}
use Rattle.spec_machine.specs.declared.event.Event.{Event}
use Rattle.spec_machine.specs.declared.event.Event.TheVariants as events
use Rattle.spec_machine.specs.declared.reply.Mode.{Mode}
use Rattle.spec_machine.specs.declared.reply.Mode.TheVariants as mode
use Rattle.spec_machine.specs.declared.reply.Reply.{Reply}
use Rattle.spec_machine.specs.declared.reply.Reply.TheVariants as reply
use Rattle.spec_machine.specs.Actions.{held_or, mode_run_from, act}
use Rattle.spec_machine.specs.ProcessorStep.{processor_step}
use Rattle.spec_machine.specs.Project.{Project}
use Rattle.spec_machine.specs.State.{State, Plan}
use Rattle.spec_machine.specs.ValidProject.{IsValidProject, has_known_trigger, is_event, is_event_task}
use Rattle.spec_schedule.specs.declared.trace.TraceAnswer.{TraceAnswer}
use Rattle.spec_schedule.specs.declared.trace.TraceAnswer.TheVariants as answer
use Rattle.spec_schedule.specs.declared.trace.TraceEvent.{TraceEvent}
use Rattle.spec_schedule.specs.declared.trace.TraceEvent.TheVariants as event
use Rattle.spec_schedule.specs.declared.trace.Verb.{Verb}
use Rattle.spec_schedule.specs.declared.trace.Verb.TheVariants as verb
use Rattle.spec_schedule.specs.Counting.{Counted, uncounted, Numbers, CountedEvent, is_task}
use Rattle.spec_schedule.specs.Refusals.{when, first_of, conn_of, is_no_conn, is_mode, first_cause}
use Rattle.spec_schedule.specs.TraceView.{step_seen, named, program_number, answer_of}
use Rattle.spec_reach.proofs.Changes.{Known}
use Rattle.spec_reach.proofs.Reached.{known_at}
use Rattle.spec_legal.specs.LegalRuns.{counted_run}
use Rattle.spec_legal.proofs.Along.{place, IsPlace}
use Rattle.spec_laws.specs.ActionReleases.{calls_for, comes_up_by, mask_where, KeepsActionReleases}
use Rattle.spec_laws.specs.Answers.{refusal_in, IsAnsweredRightly}
use Rattle.spec_laws.specs.CountedBack.{each_with_past}
use Rattle.spec_laws.specs.TickReleases.{mask_below}
use Rattle.spec_laws.proofs.Lawful.{runs_are_lawful}
use Rattle.lgx_laws.specs.Modes.{mode_after, holds}
use Rattle.lgx_laws.specs.Starts.{may_come_up, may_trigger, keeps_starts}
use Rattle.lgx_laws.proofs.AtStages.{at_stage}
use Rattle.lgx_laws.proofs.Masks.{mask_same}
use Rattle.lgx_laws.proofs.ModesKept.{HasMode, mode_next, first_mode, same_held}
use Rattle.lgx_laws.proofs.StartsAt.{any_in_range}
use Rattle.lgx_laws.proofs.RunsBack.{all_of_run, no_counts, no_edits}

-- ---- masks

mask_none : (f : ℕ → Bool) (n : ℕ) → ((k : ℕ) → f k ≡ false) → mask_below f n ≡ 0
mask_none f zero h = refl
mask_none f (suc n) h = ap (λ m. m + cond (f n) (2 ^ n) 0) (mask_none f n h) ∙ (ap (λ b. 0 + cond b (2 ^ n) 0) (h n) ∙ refl)

module _ (f : ℕ → Bool) (t : ℕ) (only : (u : ℕ) → (u ≡ t → ⊥) → f u ≡ false) where
  mask_before : (n : ℕ) → n ≤ t → mask_below f n ≡ 0
  mask_before zero l = refl
  mask_before (suc n) l = ap (λ m. m + cond (f n) (2 ^ n) 0) (mask_before n (omega arith)) ∙ (ap (λ b. 0 + cond b (2 ^ n) 0) (only n (λ e. absurd (omega arith))) ∙ refl)

  mask_one : (n : ℕ) → t < n → mask_below f n ≡ cond (f t) (2 ^ t) 0
  mask_one zero l = absurd (omega arith)
  mask_one (suc n) l =
      elim (cases_eq t n) [
        | inl e ↦ (let z = mask_before n (omega arith) in let w : mask_below f n + cond (f n) (2 ^ n) 0 ≡ cond (f n) (2 ^ n) 0 = omega arith in w ∙ ap (λ k. cond (f k) (2 ^ k) 0) (sym e))
        | inr ne ↦ (let z = mask_one n (omega arith) in
            let w = ap (λ b. cond b (2 ^ n) 0) (only n (λ e. ne (sym e))) in
            let x : mask_below f n + cond (f n) (2 ^ n) 0 ≡ cond (f t) (2 ^ t) 0 = omega arith in
            x)
      ]

all_at : {A : Type 0} (passes : A → Bool) (xs : List A) (k : ℕ) (d : A) → list_all passes xs ≡ true → k < length xs → passes (slice_index_or xs k d) ≡ true
all_at passes [] k d h l = absurd (omega arith)
all_at passes (x ∷ xs) zero d h l = (and_parts (passes x) (list_all passes xs) h).0
all_at passes (x ∷ xs) (suc k) d h l = all_at passes xs k d (and_parts (passes x) (list_all passes xs) h).1 (omega arith)

module _ (p : Project) (valid : IsValidProject p) (s : State) (cs : List Counted) (ns : List Numbers) (past : List CountedEvent) (h : IsPlace p s cs) (is_mode_shown : mode_after past ≡ s.mode) (lane : ℕ) where
  known : Known p s
  known = known_at p s h.reached

  abbrev with_event : TraceEvent → CountedEvent
  with_event e = record { tasks = cs; programs = ns; event = e }

  abbrev Keeps : TraceEvent → Type 0
  Keeps e = keeps_starts p.tasks past (with_event e) ≡ true

  -- an action that releases nobody
  quiet : (v : Verb) (g : Option ℕ) (a : TraceAnswer) → (v ≡ verb.Run → a ≡ answer.Done → ⊥) → Keeps (event.Act lane v g a 0)
  quiet verb.Accept g a h = refl
  quiet verb.Test g a h = refl
  quiet verb.Untest g a h = refl
  quiet verb.Assemble g a h = refl
  quiet verb.Cancel g a h = refl
  quiet verb.Run g answer.Done h = absurd (h refl refl)
  quiet verb.Run g (answer.Number n) h = refl
  quiet verb.Run g answer.No h = refl
  quiet verb.Program g a h = refl
  quiet verb.Clear g a h = refl
  quiet verb.Other g answer.Done h = refl
  quiet verb.Other g (answer.Number n) h = refl
  quiet verb.Other g answer.No h = refl

  quietly : (v : Verb) (g : Option ℕ) (a : TraceAnswer) (mask : ℕ) → mask ≡ 0 → (v ≡ verb.Run → a ≡ answer.Done → ⊥) → Keeps (event.Act lane v g a mask)
  quietly v g a mask none other = subst (λ (m : ℕ). Keeps (event.Act lane v g a m)) (sym none) (quiet v g a other)

  many : length s.table.defs ≡ length p.tasks
  many = ap (λ (ds : List TaskDef). length ds) known.sizes.same_tasks

  -- who comes up, of those that this asks for
  same_up : (kind : TaskDef → Bool) (t : ℕ) → t < length p.tasks → ((kind (task s.table t) && not (task s.table t).inhibited) && not (is_up s.table t)) ≡ ((kind (slice_index_or p.tasks t no_task) && not (slice_index_or p.tasks t no_task).inhibited) && not (slice_index_or cs t uncounted).up)
  same_up kind t l =
      ap (λ (ds : List TaskDef). (kind (slice_index_or ds t no_task) && not (slice_index_or ds t no_task).inhibited) && not (is_up s.table t)) known.sizes.same_tasks
      ∙ ap (λ b. (kind (slice_index_or p.tasks t no_task) && not (slice_index_or p.tasks t no_task).inhibited) && not b) (sym (h.mirrors.shows t l).up)

  -- the mask of an action is that of those who come up by it
  released : (a : Action) → (act s lane a).answer.released ≡ mask_where s (comes_up_by s a (act s lane a).answer.reply)
  released a = (at_stage KeepsActionReleases p (runs_are_lawful p valid).actions s (events.Act lane a) h.reached).released

  -- ---- an action that calls for nobody

  calmly : (a : Action) (v : Verb) → ((t : ℕ) → calls_for s a (act s lane a).answer.reply t ≡ false) → (v ≡ verb.Run → answer_of (act s lane a).answer.reply ≡ answer.Done → ⊥) → Keeps (event.Act lane v (program_number p.programs (named a)) (answer_of (act s lane a).answer.reply) (act s lane a).answer.released)
  calmly a v calm other =
      quietly v (program_number p.programs (named a)) (answer_of (act s lane a).answer.reply) (act s lane a).answer.released
      (released a ∙ mask_none (comes_up_by s a (act s lane a).answer.reply) (length s.table.defs) (λ t. ap (λ b. (b && not (task s.table t).inhibited) && not (is_up s.table t)) (calm t))) other

  -- ---- the change to Run

  run_mask : mask_where s (comes_up_by s ModeRun reply.Done) ≡ mask_below (may_come_up is_continuous p.tasks (with_event event.Idle)) (length p.tasks)
  run_mask =
      ap (mask_below (comes_up_by s ModeRun reply.Done)) many
      ∙ mask_same (comes_up_by s ModeRun reply.Done) (may_come_up is_continuous p.tasks (with_event event.Idle)) (length p.tasks) (λ t l. same_up (λ d. is_continuous d.kind) t l)

  run_keeps : (b : Bool) (m : Mode) → (held_or b s (mode_run_from m s)).answer.released ≡ mask_where s (comes_up_by s ModeRun (held_or b s (mode_run_from m s)).answer.reply) → Keeps (event.Act lane verb.Run None (answer_of (held_or b s (mode_run_from m s)).answer.reply) (held_or b s (mode_run_from m s)).answer.released)
  run_keeps true m e = refl
  run_keeps false mode.Program e = eq-eqb _ _ (e ∙ run_mask)
  run_keeps false mode.Run e = refl
  run_keeps false mode.Faulted e = refl

  -- ---- a word that comes in

  module _ (name : List ℕ) (word : ℕ) (v : ℤ) where
    abbrev a : Action
    a = WordIn name word v

    abbrev c : ConnDef
    c = conn_of s name

    abbrev place_of : ℕ
    place_of = unwrap_or (conn_named s.plan.conns name) (length s.plan.conns)

    -- its trigger is an event task
    is_known : (t : ℕ) → c.trigger ≡ Some t → (t < length p.tasks) × (is_event (slice_index_or p.tasks t no_task).kind ≡ true)
    is_known t e =
        elim (cases_lt place_of (length s.plan.conns)) [
          | inl l ↦ (let conns = ap (λ (plan : Plan). plan.conns) known.sizes.same_plan in
              let all = subst (λ (ds : List ConnDef). list_all (has_known_trigger p.tasks) ds ≡ true) (sym conns) valid.triggers in
              let one = all_at (has_known_trigger p.tasks) s.plan.conns place_of no_conn all l in
              let f : has_known_trigger p.tasks (record c { trigger = Some t }) ≡ true = subst (λ (o : Option ℕ). has_known_trigger p.tasks (record c { trigger = o }) ≡ true) e one in
              let q = and_parts (not c.output) (is_event_task p.tasks t) f in
              let r = and_parts (nat_lt t (length p.tasks)) (is_event (slice_index_or p.tasks t no_task).kind) q.1 in
              (ltb-true t (length p.tasks) r.0, r.1))
          | inr g ↦ absurd (cc (sym (ap (λ (d : ConnDef). d.trigger) (get_or_past s.plan.conns place_of no_conn g)) ∙ e))
        ]

    -- a word that was taken came while no CPS was open
    not_held : first_cause s lane a ≡ None → held s.table ≡ false
    not_held e = go (held s.table) e
      where
        go : (b : Bool) → first_of (when b reply.Held ∷ when (is_no_conn s name) (reply.Conn N1) ∷ when (nat_le c.words word) (reply.Conn N2) ∷ when (not (agree c.output false)) (reply.Conn N3) ∷ []) ≡ None → b ≡ false
        go true e = absurd (cc e)
        go false e = refl

    abbrev comes : ℕ → Bool
    comes = comes_up_by s a reply.Done

    comes_if : (t : ℕ) (o : Option ℕ) → c.trigger ≡ o → comes t ≡ (((is_mode s.mode mode.Run && (nat_eq (word + 1) c.words && is_task t o)) && not (task s.table t).inhibited) && not (is_up s.table t))
    comes_if t o e = ap (λ w. ((is_mode s.mode mode.Run && (nat_eq (word + 1) c.words && is_task t w)) && not (task s.table t).inhibited) && not (is_up s.table t)) e

    never : (x y z w : Bool) → (((x && (y && false)) && z) && w) ≡ false
    never true true z w = refl
    never true false z w = refl
    never false y z w = refl

    -- the mask of the trigger's task, if it comes up
    module _ (t : ℕ) (e : c.trigger ≡ Some t) where
      only : (u : ℕ) → (u ≡ t → ⊥) → comes u ≡ false
      only u ne =
          comes_if u (Some t) e
          ∙ (ap (λ b. ((is_mode s.mode mode.Run && (nat_eq (word + 1) c.words && b)) && not (task s.table u).inhibited) && not (is_up s.table u)) (ne_eqb t u (λ q. ne (sym q)))
          ∙ never (is_mode s.mode mode.Run) (nat_eq (word + 1) c.words) (not (task s.table u).inhibited) (not (is_up s.table u)))

      mask_is : mask_where s comes ≡ cond (comes t) (2 ^ t) 0
      mask_is = mask_one comes t only (length s.table.defs) (let l = (is_known t e).0 in let m = many in omega arith)

      -- what is so of one that comes up
      in_run : comes t ≡ true → is_mode s.mode mode.Run ≡ true
      in_run up =
          (and_parts (is_mode s.mode mode.Run) (nat_eq (word + 1) c.words && is_task t c.trigger)
          (and_parts (calls_for s a reply.Done t) (not (task s.table t).inhibited) (and_parts (calls_for s a reply.Done t && not (task s.table t).inhibited) (not (is_up s.table t)) up).0).0).0

      may_come : comes t ≡ true → may_come_up is_event p.tasks (with_event event.Idle) t ≡ true
      may_come up =
          let two = and_parts (calls_for s a reply.Done t && not (task s.table t).inhibited) (not (is_up s.table t)) up in
          let one = and_parts (calls_for s a reply.Done t) (not (task s.table t).inhibited) two.0 in
          let known_task = is_known t e in
          sym (same_up (λ d. is_event d.kind) t known_task.0)
          ∙ and_from (is_event (task s.table t).kind && not (task s.table t).inhibited) _
          (and_from (is_event (task s.table t).kind) _ (ap (λ (ds : List TaskDef). is_event (slice_index_or ds t no_task).kind) known.sizes.same_tasks ∙ known_task.1) one.1) two.1

      shown_mode : (b : Bool) → holds cs ≡ b → b ≡ false → comes t ≡ true → may_trigger past (with_event event.Idle) ≡ true
      shown_mode b is none up =
          and_from (is_mode (mode_after past) mode.Run) _ (ap (λ m. is_mode m mode.Run) is_mode_shown ∙ in_run up) (ap not (is ∙ none))

      by_one : (b : Bool) → comes t ≡ b → held s.table ≡ false → Keeps (event.Act lane verb.Other None answer.Done (cond b (2 ^ t) 0))
      by_one false is free = refl
      by_one true is free =
          or_right (nat_eq (2 ^ t) 0) _
          (and_from (may_trigger past (with_event event.Idle)) _ (shown_mode (held s.table) (same_held p valid s cs ns past h) free is)
          (any_in_range (λ u. nat_eq (2 ^ t) (2 ^ u) && may_come_up is_event p.tasks (with_event event.Idle) u) 0 (length p.tasks) t (omega arith) (let l = (is_known t e).0 in omega arith)
          (and_from (nat_eq (2 ^ t) (2 ^ t)) _ (eq-eqb (2 ^ t) (2 ^ t) refl) (may_come is))))

    by_trigger : (o : Option ℕ) → c.trigger ≡ o → held s.table ≡ false → (mask : ℕ) → mask ≡ mask_where s comes → Keeps (event.Act lane verb.Other None answer.Done mask)
    by_trigger None e free mask is =
        quietly verb.Other None answer.Done mask
        (is ∙ mask_none comes (length s.table.defs) (λ t. comes_if t None e ∙ never (is_mode s.mode mode.Run) (nat_eq (word + 1) c.words) (not (task s.table t).inhibited) (not (is_up s.table t)))) (λ q. absurd (cc q))
    by_trigger (Some t) e free mask is = subst (λ (m : ℕ). Keeps (event.Act lane verb.Other None answer.Done m)) (sym (is ∙ mask_is t e)) (by_one t e (comes t) refl free)

    -- by the reply
    word_keeps : (r : Reply) (mask : ℕ) → mask ≡ mask_where s (comes_up_by s a r) → first_cause s lane a ≡ refusal_in r → Keeps (event.Act lane verb.Other None (answer_of r) mask)
    word_keeps reply.Done mask is cause = by_trigger c.trigger refl (not_held cause) mask is
    word_keeps (reply.Word n) mask is cause = quietly verb.Other None answer.Done mask (is ∙ mask_none (comes_up_by s a (reply.Word n)) (length s.table.defs) (λ t. refl)) (λ q. absurd (cc q))
    word_keeps (reply.Version n) mask is cause = quietly verb.Other None (answer.Number n) mask (is ∙ mask_none (comes_up_by s a (reply.Version n)) (length s.table.defs) (λ t. refl)) (λ q. absurd (cc q))
    word_keeps reply.Held mask is cause = quietly verb.Other None answer.No mask (is ∙ mask_none (comes_up_by s a reply.Held) (length s.table.defs) (λ t. refl)) (λ q. absurd (cc q))
    word_keeps (reply.Mode f) mask is cause = quietly verb.Other None answer.No mask (is ∙ mask_none (comes_up_by s a (reply.Mode f)) (length s.table.defs) (λ t. refl)) (λ q. absurd (cc q))
    word_keeps (reply.Conn f) mask is cause = quietly verb.Other None answer.No mask (is ∙ mask_none (comes_up_by s a (reply.Conn f)) (length s.table.defs) (λ t. refl)) (λ q. absurd (cc q))
    word_keeps (reply.Force f) mask is cause = quietly verb.Other None answer.No mask (is ∙ mask_none (comes_up_by s a (reply.Force f)) (length s.table.defs) (λ t. refl)) (λ q. absurd (cc q))
    word_keeps (reply.Edit f) mask is cause = quietly verb.Other None answer.No mask (is ∙ mask_none (comes_up_by s a (reply.Edit f)) (length s.table.defs) (λ t. refl)) (λ q. absurd (cc q))

  -- ---- all actions

  action_keeps : (a : Action) → keeps_starts p.tasks past (place p s cs ns (events.Act lane a)) ≡ true
  action_keeps (WordIn name word v) =
      let o : Outcome = (act s lane (WordIn name word v)).answer in
      word_keeps name word v o.reply o.released (released (WordIn name word v)) (at_stage IsAnsweredRightly p (runs_are_lawful p valid).answers s (events.Act lane (WordIn name word v)) h.reached)
  action_keeps (WordOut name word) = calmly (WordOut name word) verb.Other (λ t. refl) (λ q. absurd (cc q))
  action_keeps (Accept c) = calmly (Accept c) verb.Accept (λ t. refl) (λ q. absurd (cc q))
  action_keeps (Test n) = calmly (Test n) verb.Test (λ t. refl) (λ q. absurd (cc q))
  action_keeps (Untest n) = calmly (Untest n) verb.Untest (λ t. refl) (λ q. absurd (cc q))
  action_keeps (Assemble n) = calmly (Assemble n) verb.Assemble (λ t. refl) (λ q. absurd (cc q))
  action_keeps (Cancel n) = calmly (Cancel n) verb.Cancel (λ t. refl) (λ q. absurd (cc q))
  action_keeps (ForceInstall name word mask v) = calmly (ForceInstall name word mask v) verb.Other (λ t. refl) (λ q. absurd (cc q))
  action_keeps ForceEnable = calmly ForceEnable verb.Other (λ t. refl) (λ q. absurd (cc q))
  action_keeps ForceDisable = calmly ForceDisable verb.Other (λ t. refl) (λ q. absurd (cc q))
  action_keeps ForceRemove = calmly ForceRemove verb.Other (λ t. refl) (λ q. absurd (cc q))
  action_keeps ModeRun = run_keeps (held s.table) s.mode (released ModeRun)
  action_keeps ModeProgram = calmly ModeProgram verb.Program (λ t. refl) (λ q. absurd (cc q))
  action_keeps Clear = calmly Clear verb.Clear (λ t. refl) (λ q. absurd (cc q))

module _ (p : Project) (valid : IsValidProject p) where
  -- nothing is asked of a processor step
  step_keeps : (cs : List Counted) (ns : List Numbers) (past : List CountedEvent) (m : Moment) (w : What) → keeps_starts p.tasks past (record { tasks = cs; programs = ns; event = step_seen m w }) ≡ true
  step_keeps cs ns past m what.Idle = refl
  step_keeps cs ns past m (what.Began t n v) = refl
  step_keeps cs ns past m (what.Ran t n) = refl
  step_keeps cs ns past m (what.Copied t n) = refl
  step_keeps cs ns past m (what.Left t n ended) = refl

  keeps_here : (s : State) (e : Event) (cs : List Counted) (ns : List Numbers) (past : List CountedEvent) → IsPlace p s cs → mode_after past ≡ s.mode → keeps_starts p.tasks past (place p s cs ns e) ≡ true
  keeps_here s events.Cpu cs ns past h k = step_keeps cs ns past (processor_step s).answer (processor_step s).answer.what
  keeps_here s events.Tick cs ns past h k = refl
  keeps_here s (events.Act lane a) cs ns past h k = action_keeps p valid s cs ns past h k lane a

  pub runs_keep_starts : (journal : List Event) → each_with_past (keeps_starts p.tasks) [] (counted_run p journal) ≡ true
  runs_keep_starts journal = all_of_run p valid (HasMode p valid) (keeps_starts p.tasks) (mode_next p valid) keeps_here (first_mode p valid (no_counts p) (no_edits p)) journal
