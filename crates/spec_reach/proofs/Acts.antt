-- What happens to each task at an action.
use Rattle.std.proofs.Common.{◌≡◌, ℕ, ◌^◌, ◌<◌, Bool, true, false, cond, List, length, map, Option, Some, None, ◌⊎◌, inl, inr, refl, sym, ◌∙◌, ap, subst, arith, get_or-set_same, get_or-set_other}
use Rattle.std.specs.Prelude.{ℤ, Result, Ok, Err, nat_eq, option_and_then, slice_index_or}
use Rattle.std.specs.Int.{w32, bit_at}
use Rattle.std.proofs.lemmas.Bool.{cases_eq}
use Rattle.std.proofs.lemmas.List.{length-map}
use Rattle.std.proofs.lemmas.Nat.Bits.{bit_at-zero, bit_at-pow_same, bit_at-pow_other}
use Rattle.lgx_num.specs.Image.{write_signed}
use Rattle.spec_tables.specs.declared.conn.ConnFault.{ConnFault}
use Rattle.spec_tables.specs.declared.conn.Slot.{Slot}
use Rattle.spec_tables.specs.declared.force.ForceFault.{ForceFault}
use Rattle.spec_tables.specs.declared.task.Release.{Release}
use Rattle.spec_tables.specs.declared.task.Release.TheVariants.{Released, Overlap, Inhibited}
use Rattle.spec_tables.specs.Connections.{slot, io_word}
use Rattle.spec_tables.specs.Forces.{Forces, forced, enable, disable, remove_all}
use Rattle.spec_tables.specs.Tasks.{TaskState, Table, state_of, task, release_answer, continuous_task, held, stop, put_up_if, release_some, if_released}
use Rattle.spec_machine.specs.declared.answer.Outcome.{Outcome}
use Rattle.spec_machine.specs.declared.reply.Mode.{Mode}
use Rattle.spec_machine.specs.declared.reply.Mode.TheVariants.{Program, Run, Faulted}
use Rattle.spec_machine.specs.declared.reply.EditFault.{EditFault}
use Rattle.spec_machine.specs.declared.reply.Reply.{Reply}
use Rattle.spec_machine.specs.declared.reply.Reply.TheVariants.{Held}
use Rattle.spec_machine.specs.declared.reply.Reply.TheVariants as reply
use Rattle.spec_machine.specs.declared.event.Event.TheVariants.{Tick, Act}
use Rattle.spec_machine.specs.declared.event.Action.{Action}
use Rattle.spec_machine.specs.declared.event.Action.TheVariants.{WordIn, WordOut, Accept, Test, Untest, Assemble, Cancel, ForceInstall, ForceEnable, ForceDisable, ForceRemove, ModeRun, ModeProgram, Clear}
use Rattle.spec_machine.specs.Edits.{Book, Edited, accept, on_accepted, test, untest, assemble, cancel}
use Rattle.spec_machine.specs.Project.{Project}
use Rattle.spec_machine.specs.State.{State, Progress, no_progress, progress_of, programs_of, Answered}
use Rattle.spec_machine.specs.Releases.{mask_of, after_answer}
use Rattle.spec_machine.specs.Actions.{replied, held_or, after_trigger, triggers, put_in, take_out, install_on, force_replied, edit_replied, mode_run_from, mode_program_from, clear_from, act}
use Rattle.spec_machine.specs.Machine.{after_action}
use Rattle.spec_scan.specs.Position.{ProgramRungs}
use Rattle.spec_schedule.specs.declared.trace.AuditTask.{AuditTask}
use Rattle.spec_schedule.specs.declared.trace.TraceAnswer.{TraceAnswer}
use Rattle.spec_schedule.specs.declared.trace.Verb.{Verb}
use Rattle.spec_schedule.specs.declared.trace.TraceEvent.TheVariants as event
use Rattle.spec_schedule.specs.Counting.{Counted, counted, stops, released, gone_down, is_task}
use Rattle.spec_schedule.specs.Stages.{begins, sync_start, sync_end}
use Rattle.spec_schedule.specs.TraceView.{audit_task, seen, verb_of, named, program_number, answer_of}
use Rattle.spec_reach.proofs.Changes.{TaskView, view_at, view_of, Change, Stays, GoesDown, ComesUp, fresh, changed, counts_after, begun_after, starts_copy, ends_copy, TakesTurn, Makes, Happens, Known}
use Rattle.spec_reach.proofs.Views.{own_view, other_view, down_state, all_down_view, cleared_progress, released_down}

-- what an action makes of task k
pub record ActMakes (p : Project) (s : State) (lane : ℕ) (a : Action) (x : Answered Outcome) (k : ℕ) : Type 0 where
  pub change : Change
  pub makes : Makes s (Act lane a) k change
  pub view : view_of x.state k ≡ changed change (view_of s k)
  pub counts : (c : Counted) → counted (audit_task (task s.table k) (programs_of s k)) k (seen p (after_action lane a x).answer) c ≡ counts_after change c
  pub begun : (books : List Book) (b : Option ProgramRungs) → begins k (after_action lane a x).answer books b ≡ begun_after change books b
  pub starts : is_task k (sync_start (after_action lane a x).answer) ≡ starts_copy change
  pub ends : is_task k (sync_end (after_action lane a x).answer) ≡ ends_copy change

no_turn : (s : State) (lane : ℕ) (a : Action) (k : ℕ) → TakesTurn s (Act lane a) k → ⊥
no_turn s lane a k h = let f : Act lane a ≡ Tick → ⊥ = λ e. cc in f h.tick

-- ---- what is counted of a mask

-- of an action that stops nothing and releases none
silent : (d : AuditTask) (k lane : ℕ) (verb : Verb) (g : Option ℕ) (answer : TraceAnswer) (c : Counted) → stops (event.Act lane verb g answer 0) ≡ false → counted d k (event.Act lane verb g answer 0) c ≡ c
silent d k lane verb g answer c e =
    ap (λ b. cond b (gone_down c) (cond (nat_eq (bit_at 0 k) 1) (released c) c)) e ∙ ap (λ n. cond (nat_eq n 1) (released c) c) (bit_at-zero k)

-- of one that releases this task
tells_here : (k : ℕ) (c : Counted) → cond (nat_eq (bit_at (2 ^ k) k) 1) (released c) c ≡ released c
tells_here k c = ap (λ n. cond (nat_eq n 1) (released c) c) (bit_at-pow_same k)

-- of one that releases another
tells_other : (t k : ℕ) (c : Counted) → (k ≡ t → ⊥) → cond (nat_eq (bit_at (2 ^ t) k) 1) (released c) c ≡ c
tells_other t k c ne = ap (λ n. cond (nat_eq n 1) (released c) c) (bit_at-pow_other t k ne)

module _ (p : Project) (s : State) (lane : ℕ) (a : Action) (k : ℕ) where
  abbrev Acts : Answered Outcome → Type 0
  Acts x = ActMakes p s lane a x k

  -- nothing happens to the task
  quiet : (x : State) (r : Reply) → view_of x k ≡ view_of s k → stops (event.Act lane (verb_of a) (program_number p.programs (named a)) (answer_of r) 0) ≡ false → Acts (replied x r)
  quiet x r e st = record {
    change = Stays;
    makes = no_turn s lane a k;
    view = e;
    counts = λ c. silent (audit_task (task s.table k) (programs_of s k)) k lane (verb_of a) (program_number p.programs (named a)) (answer_of r) c st;
    begun = λ books b. refl;
    starts = refl;
    ends = refl;
  }

module _ (p : Project) (s : State) (known : Known p s) (lane : ℕ) (k : ℕ) (within : k < length p.tasks) where
  in_states : k < length s.table.states
  in_states = let e = known.sizes.states in omega arith

  in_progress : k < length s.progress
  in_progress = let e = known.sizes.progresses in omega arith

  -- ---- I/O words

  module _ (conn : List ℕ) (word : ℕ) (v : ℤ) where
    abbrev a : Action
    a = WordIn conn word v

    by_answer : (x : State) (t : ℕ) (answer : Release) → x.table ≡ s.table → x.progress ≡ s.progress → x.tick ≡ s.tick → release_answer x.table t ≡ answer → (k ≡ t) ⊎ (k ≡ t → ⊥) → ActMakes p s lane a (after_trigger t (after_answer answer t x)) k
    by_answer x t Released et ep en r (inl e) = record {
      change = ComesUp s.tick s.table.next;
      makes = (ap (λ (z : Table). state_of z k) (sym et) ∙ (ap (state_of x.table) e ∙ released_down x.table t r), record { start = refl; rank = omega arith });
      view = subst (λ (i : ℕ). view_of (after_answer Released i x).state k ≡ record { state = Some (fresh s.tick s.table.next); ended = 0; scan = None }) e
          (own_view x.table.states x.progress k _ _ (subst (λ (z : Table). k < length z.states) (sym et) in_states) (subst (λ (z : List Progress). k < length z) (sym ep) in_progress)
          ∙ (ap (λ (z : Table). record { state = Some (fresh x.tick z.next); ended = 0; scan = None }) et ∙ ap (λ (n : ℕ). record { state = Some (fresh n s.table.next); ended = 0; scan = None }) en));
      counts = λ c. subst (λ (i : ℕ). cond (nat_eq (bit_at (2 ^ i) k) 1) (released c) c ≡ released c) e (tells_here k c);
      begun = λ books b. refl;
      starts = refl;
      ends = refl;
    }
    by_answer x t Released et ep en r (inr ne) = record {
      change = Stays;
      makes = no_turn s lane a k;
      view = other_view x.table.states x.progress t k _ _ ne ∙ (ap (λ (z : Table). view_at (state_of z k) (progress_of x k)) et ∙ ap (λ (z : List Progress). view_at (state_of s.table k) (slice_index_or z k no_progress)) ep);
      counts = λ c. tells_other t k c ne;
      begun = λ books b. refl;
      starts = refl;
      ends = refl;
    }
    by_answer x t Overlap et ep en r d = record {
      change = Stays;
      makes = no_turn s lane a k;
      view = ap (λ (z : Table). view_at (state_of z k) (progress_of x k)) et ∙ ap (λ (z : List Progress). view_at (state_of s.table k) (slice_index_or z k no_progress)) ep;
      counts = λ c. ap (λ n. cond (nat_eq n 1) (released c) c) (bit_at-zero k);
      begun = λ books b. refl;
      starts = refl;
      ends = refl;
    }
    by_answer x t Inhibited et ep en r d = record {
      change = Stays;
      makes = no_turn s lane a k;
      view = ap (λ (z : Table). view_at (state_of z k) (progress_of x k)) et ∙ ap (λ (z : List Progress). view_at (state_of s.table k) (slice_index_or z k no_progress)) ep;
      counts = λ c. ap (λ n. cond (nat_eq n 1) (released c) c) (bit_at-zero k);
      begun = λ books b. refl;
      starts = refl;
      ends = refl;
    }

    by_trigger : (image : List ℕ) (m : Mode) (o : Option ℕ) → ActMakes p s lane a (triggers (record s { image = image }) m o) k
    by_trigger image Run (Some t) = by_answer (record s { image = image }) t (release_answer s.table t) refl refl refl refl (cases_eq k t)
    by_trigger image Program (Some t) = quiet p s lane a k (record s { image = image }) _ refl refl
    by_trigger image Faulted (Some t) = quiet p s lane a k (record s { image = image }) _ refl refl
    by_trigger image Run None = quiet p s lane a k (record s { image = image }) _ refl refl
    by_trigger image Program None = quiet p s lane a k (record s { image = image }) _ refl refl
    by_trigger image Faulted None = quiet p s lane a k (record s { image = image }) _ refl refl

    by_put : (x : Result Slot ConnFault) → ActMakes p s lane a (put_in s v x) k
    by_put (Err f) = quiet p s lane a k s _ refl refl
    by_put (Ok to) = by_trigger (write_signed w32 s.image to.byte (forced s.forces to.io v)) s.mode to.trigger

    pub by_word_in : (b : Bool) → ActMakes p s lane a (held_or b s (put_in s v (slot s.plan.conns conn word false))) k
    by_word_in true = quiet p s lane a k s _ refl refl
    by_word_in false = by_put (slot s.plan.conns conn word false)

  module _ (conn : List ℕ) (word : ℕ) where
    by_take : (x : Result Slot ConnFault) → ActMakes p s lane (WordOut conn word) (take_out s x) k
    by_take (Err f) = quiet p s lane (WordOut conn word) k s _ refl refl
    by_take (Ok to) = quiet p s lane (WordOut conn word) k s _ refl refl

    pub by_word_out : (b : Bool) → ActMakes p s lane (WordOut conn word) (held_or b s (take_out s (slot s.plan.conns conn word true))) k
    by_word_out true = quiet p s lane (WordOut conn word) k s _ refl refl
    by_word_out false = by_take (slot s.plan.conns conn word true)

  -- ---- edits and forces

  -- an action that neither stops nor releases, whatever it is answered
  abbrev NeverStops : Action → Type 0
  NeverStops a = (r : Reply) → stops (event.Act lane (verb_of a) (program_number p.programs (named a)) (answer_of r) 0) ≡ false

  by_edit : (a : Action) → NeverStops a → (x : Result Edited EditFault) → ActMakes p s lane a (edit_replied s x) k
  by_edit a never (Err f) = quiet p s lane a k s (reply.Edit f) refl (never (reply.Edit f))
  by_edit a never (Ok e) = quiet p s lane a k (record s { books = e.books }) e.reply refl (never e.reply)

  by_force : (a : Action) → NeverStops a → (x : Result Forces ForceFault) → ActMakes p s lane a (force_replied s x) k
  by_force a never (Err f) = quiet p s lane a k s (reply.Force f) refl (never (reply.Force f))
  by_force a never (Ok f) = quiet p s lane a k (record s { forces = f }) reply.Done refl (never reply.Done)

  -- ---- modes

  -- in Program every task is down
  down_in : s.mode ≡ Program → view_of s k ≡ record { state = None; ended = 0; scan = None }
  down_in e = go (state_of s.table k) refl
    where
      go : (o : Option TaskState) → state_of s.table k ≡ o → view_of s k ≡ record { state = None; ended = 0; scan = None }
      go None g = let d = (known.sound k).down g in cc (g, d.0, d.1)
      go (Some u) g = let f : Program ≡ Run → ⊥ = λ x. cc in absurd (f (sym e ∙ known.orderly.in_run k u g))

  abbrev stopped : Table
  stopped = record (stop s.table) { run_since = s.tick }

  stopped_down : state_of stopped k ≡ None
  stopped_down = down_state s.table.states k

  -- the state after the change to Run, with this table
  abbrev started : Table → State
  started x = record s { mode = Run; table = x; progress = map (λ (q : Progress). no_progress) s.progress }

  abbrev view_with : Table → TaskView
  view_with x = view_at (state_of x k) (slice_index_or (map (λ (q : Progress). no_progress) s.progress) k no_progress)

  with_none : (x : Table) → state_of x k ≡ None → view_with x ≡ record { state = None; ended = 0; scan = None }
  with_none x e = ap (λ u. view_at u (slice_index_or (map (λ (q : Progress). no_progress) s.progress) k no_progress)) e ∙ ap (view_at None) (cleared_progress s.progress k)

  -- what the change to Run makes of the task, by the continuous task's release
  pub record RunStarts (x : Table) (mask : ℕ) : Type 0 where
    pub change : Change
    pub makes : Makes s (Act lane ModeRun) k change
    pub view : view_with x ≡ changed change (view_of s k)
    pub counts : (c : Counted) → cond (nat_eq (bit_at mask k) 1) (released c) c ≡ counts_after change c
    pub begun : (books : List Book) (b : Option ProgramRungs) → b ≡ begun_after change books b
    pub starts : false ≡ starts_copy change
    pub ends : false ≡ ends_copy change

  none_starts : s.mode ≡ Program → (x : Table) → state_of x k ≡ None → RunStarts x 0
  none_starts e x d = record {
    change = Stays;
    makes = no_turn s lane ModeRun k;
    view = with_none x d ∙ sym (down_in e);
    counts = λ c. ap (λ n. cond (nat_eq n 1) (released c) c) (bit_at-zero k);
    begun = λ books b. refl;
    starts = refl;
    ends = refl;
  }

  starts_by : s.mode ≡ Program → (t : ℕ) (answer : Release) → (k ≡ t) ⊎ (k ≡ t → ⊥) → RunStarts (put_up_if answer t s.tick stopped) (mask_of (if_released answer t))
  starts_by e t Released (inl h) = record {
    change = ComesUp s.tick s.table.next;
    makes = (ap (λ (v : TaskView). v.state) (down_in e), record { start = refl; rank = omega arith });
    view = subst (λ (i : ℕ). view_with (put_up_if Released i s.tick stopped) ≡ record { state = Some (fresh s.tick s.table.next); ended = 0; scan = None }) h
        (ap (λ u. view_at u (slice_index_or (map (λ (q : Progress). no_progress) s.progress) k no_progress)) (get_or-set_same stopped.states k _ None (subst (λ (n : ℕ). k < n) (sym (length-map s.table.states (λ (u : Option TaskState). let x : Option TaskState = None in x))) in_states))
        ∙ ap (view_at (Some (fresh s.tick s.table.next))) (cleared_progress s.progress k));
    counts = λ c. subst (λ (i : ℕ). cond (nat_eq (bit_at (2 ^ i) k) 1) (released c) c ≡ released c) h (tells_here k c);
    begun = λ books b. refl;
    starts = refl;
    ends = refl;
  }
  starts_by e t Released (inr ne) = record {
    change = Stays;
    makes = no_turn s lane ModeRun k;
    view = with_none (put_up_if Released t s.tick stopped) (get_or-set_other stopped.states t k _ None ne ∙ stopped_down) ∙ sym (down_in e);
    counts = λ c. tells_other t k c ne;
    begun = λ books b. refl;
    starts = refl;
    ends = refl;
  }
  starts_by e t Overlap d = none_starts e stopped stopped_down
  starts_by e t Inhibited d = none_starts e stopped stopped_down

  starts : s.mode ≡ Program → (o : Option ℕ) → RunStarts (release_some o s.tick stopped) (mask_of (option_and_then (λ t. if_released (release_answer (stop s.table) t) t) o))
  starts e None = none_starts e stopped stopped_down
  starts e (Some t) = starts_by e t (release_answer stopped t) (cases_eq k t)

  by_run : (m : Mode) → s.mode ≡ m → ActMakes p s lane ModeRun (mode_run_from m s) k
  by_run Program e = let r = starts e (continuous_task s.table) in record { change = r.change; makes = r.makes; view = r.view; counts = r.counts; begun = r.begun; starts = r.starts; ends = r.ends }
  by_run Run e = quiet p s lane ModeRun k s _ refl refl
  by_run Faulted e = quiet p s lane ModeRun k s _ refl refl

  by_program : (m : Mode) → ActMakes p s lane ModeProgram (mode_program_from m s) k
  by_program Run = record { change = GoesDown; makes = tt; view = all_down_view s.table.states s.progress k; counts = λ c. refl; begun = λ books b. refl; starts = refl; ends = refl }
  by_program Program = quiet p s lane ModeProgram k s _ refl refl
  by_program Faulted = quiet p s lane ModeProgram k s _ refl refl

  by_clear : (m : Mode) → ActMakes p s lane Clear (clear_from m s) k
  by_clear Faulted = quiet p s lane Clear k (record s { mode = Program }) _ refl refl
  by_clear Run = quiet p s lane Clear k s _ refl refl
  by_clear Program = quiet p s lane Clear k s _ refl refl

  or_held : (a : Action) (b : Bool) (x : Answered Outcome) → ActMakes p s lane a (replied s Held) k → ActMakes p s lane a x k → ActMakes p s lane a (held_or b s x) k
  or_held a true x h k' = h
  or_held a false x h k' = k'

  by_act : (a : Action) → ActMakes p s lane a (act s lane a) k
  by_act (WordIn conn word v) = by_word_in conn word v (held s.table)
  by_act (WordOut conn word) = by_word_out conn word (held s.table)
  by_act (Accept c) = by_edit (Accept c) (λ r. refl) (accept s.plan.tags s.plan.names s.books lane c)
  by_act (Test n) = by_edit (Test n) (λ r. refl) (on_accepted test s.books lane n)
  by_act (Untest n) = by_edit (Untest n) (λ r. refl) (on_accepted untest s.books lane n)
  by_act (Assemble n) = by_edit (Assemble n) (λ r. refl) (on_accepted assemble s.books lane n)
  by_act (Cancel n) = by_edit (Cancel n) (λ r. refl) (on_accepted cancel s.books lane n)
  by_act (ForceInstall conn word mask v) = by_force (ForceInstall conn word mask v) (λ r. refl) (install_on s.forces (io_word s.plan.conns conn word) mask v)
  by_act ForceEnable = by_force ForceEnable (λ r. refl) (enable s.forces)
  by_act ForceDisable = by_force ForceDisable (λ r. refl) (Ok (disable s.forces))
  by_act ForceRemove = by_force ForceRemove (λ r. refl) (remove_all s.forces)
  by_act ModeRun = or_held ModeRun (held s.table) _ (quiet p s lane ModeRun k s Held refl refl) (by_run s.mode refl)
  by_act ModeProgram = or_held ModeProgram (held s.table) _ (quiet p s lane ModeProgram k s Held refl refl) (by_program s.mode)
  by_act Clear = or_held Clear (held s.table) _ (quiet p s lane Clear k s Held refl refl) (by_clear s.mode)

  pub at_action : (a : Action) → Happens p s (Act lane a) k
  at_action a = let m = by_act a in record { change = m.change; makes = m.makes; view = m.view; counts = λ c w. m.counts c; begun = m.begun; starts = m.starts; ends = m.ends }
