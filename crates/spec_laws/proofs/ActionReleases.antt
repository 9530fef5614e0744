-- The law of releases by actions.
use Rattle.std.proofs.Common.{◌≡◌, ℕ, zero, suc, ◌+◌, ◌^◌, ◌<◌, ◌≤◌, inl, inr, Bool, true, false, cond, List, [], ◌∷◌, length, Option, Some, None, ◌⊎◌, refl, sym, ◌∙◌, ap, subst, arith, get_or-set_same, get_or-set_other}
use Rattle.std.specs.Prelude.{ℤ, Result, Ok, Err, not, ◌&&◌, ◌||◌, if◌then◌else◌, nat_eq, nat_lt, is_some, option_map, option_and_then, find, unwrap_or, slice_index_or}
use Rattle.std.specs.Int.{w32}
use Rattle.std.specs.List.{count_by, list_all, range_with_len}
use Rattle.std.proofs.lemmas.Bool.{and_parts, cases_eq, cases_lt, eq-eqb, ne_eqb, false≢true, leb-true, ltb-true}
use Rattle.std.proofs.lemmas.List.{get_or_past, length-map}
use Rattle.lgx_num.specs.Image.{write_signed}
use Rattle.lgx_num.specs.Name.{same}
use Rattle.spec_tables.specs.declared.fault.TheConstants.{TASK_FAULT, EVENT_OVERLAP}
use Rattle.spec_tables.specs.declared.conn.ConnDef.{ConnDef}
use Rattle.spec_tables.specs.declared.conn.ConnFault.{ConnFault}
use Rattle.spec_tables.specs.declared.conn.ConnFault.TheVariants.{N1, N2, N3}
use Rattle.spec_tables.specs.declared.conn.Slot.{Slot}
use Rattle.spec_tables.specs.declared.fault.Fault.{Fault}
use Rattle.spec_tables.specs.declared.fault.Severity.TheVariants.{Minor}
use Rattle.spec_tables.specs.declared.force.ForceFault.{ForceFault}
use Rattle.spec_tables.specs.declared.task.Release.TheVariants.{Released, Overlap, Inhibited}
use Rattle.spec_tables.specs.declared.task.TaskDef.{TaskDef}
use Rattle.spec_tables.specs.declared.task.TaskKind.{TaskKind}
use Rattle.spec_tables.specs.declared.task.TaskKind.TheVariants.{Continuous, Periodic, Event as EventTask}
use Rattle.spec_tables.specs.Connections.{no_conn, conn_named, trigger_at, slot, slot_of, slot_in, in_direction, io_word}
use Rattle.spec_tables.specs.Forces.{Forces, forced, enable, remove_all}
use Rattle.spec_tables.specs.Tasks.{TaskState, Table, no_task, task, state_of, is_up, is_continuous, continuous_task, held, stop, release_answer, release_some, put_up_if, if_released}
use Rattle.spec_tables.proofs.StateLists.{found, none_found}
use Rattle.spec_machine.specs.declared.answer.Outcome.{Outcome}
use Rattle.spec_machine.specs.declared.event.Action.{Action}
use Rattle.spec_machine.specs.declared.event.Action.TheVariants.{WordIn, WordOut, Accept, Test, Untest, Assemble, Cancel, ForceInstall, ForceEnable, ForceDisable, ForceRemove, ModeRun, ModeProgram, Clear}
use Rattle.spec_machine.specs.declared.event.Event.{Event}
use Rattle.spec_machine.specs.declared.event.Event.TheVariants as events
use Rattle.spec_machine.specs.declared.reply.EditFault.{EditFault}
use Rattle.spec_machine.specs.declared.reply.Mode.{Mode}
use Rattle.spec_machine.specs.declared.reply.Mode.TheVariants.{Program, Run, Faulted}
use Rattle.spec_machine.specs.declared.reply.Reply.{Reply}
use Rattle.spec_machine.specs.declared.reply.Reply.TheVariants.{Done, Held}
use Rattle.spec_machine.specs.Actions.{replied, held_or, after_trigger, triggers, put_in, take_out, install_on, force_replied, edit_replied, to_run, mode_run_from, mode_program_from, clear_from, act}
use Rattle.spec_machine.specs.Edits.{Edited, accept, on_accepted, test, untest, assemble, cancel}
use Rattle.spec_machine.specs.Project.{Project}
use Rattle.spec_machine.specs.Releases.{after_answer, overlap_code, mask_of}
use Rattle.spec_machine.specs.State.{State, Plan, Answered}
use Rattle.spec_machine.specs.ValidProject.{IsValidProject, has_known_trigger, is_event, is_event_task}
use Rattle.spec_schedule.specs.Counting.{is_task}
use Rattle.spec_schedule.specs.Refusals.{conn_of, is_mode}
use Rattle.spec_reach.proofs.Changes.{Known}
use Rattle.spec_reach.proofs.Reached.{IsReached, known_at}
use Rattle.spec_laws.proofs.AlongStages.{stage, each_stage}
use Rattle.spec_reach.proofs.Views.{down_state}
use Rattle.spec_laws.specs.ActionReleases.{calls_for, comes_up_by, overlaps_by, overlap_of, stays_up, IsReleasedRightly, KeepsActionReleases, ActionsRelease}
use Rattle.spec_laws.specs.TickReleases.{mask_below}
use Rattle.spec_laws.proofs.Numbers.{count-cons, mask_same, mask_none, mask_one, find_none, find_one, all_false, IsOnly}

module _ (s : State) where
  abbrev many : ℕ
  many = length s.table.defs

  abbrev Right : Action → Answered Outcome → Type 0
  Right a x = IsReleasedRightly s a x.answer x.state

  -- ---- of an action that calls_for for nobody

  abbrev IsCalm : Action → Reply → Type 0
  IsCalm a r = (t : ℕ) → calls_for s a r t ≡ false

  none_comes : (a : Action) (r : Reply) → IsCalm a r → (t : ℕ) → comes_up_by s a r t ≡ false
  none_comes a r calm t = ap (λ b. (b && not (task s.table t).inhibited) && not (is_up s.table t)) (calm t)

  none_overlaps : (a : Action) (r : Reply) → IsCalm a r → (t : ℕ) → overlaps_by s a r t ≡ false
  none_overlaps a r calm t = ap (λ b. (b && not (task s.table t).inhibited) && is_up s.table t) (calm t)

  calmly : (a : Action) (x : Answered Outcome) → x.answer.released ≡ 0 → x.answer.fault ≡ None → IsCalm a x.answer.reply → ((t : ℕ) → is_up x.state.table t ≡ stays_up s a x.answer.reply t) → Right a x
  calmly a x none fault calm stay =
      let r = x.answer.reply in
      record {
        released = none ∙ sym (mask_none (comes_up_by s a r) many (none_comes a r calm));
        fault = fault ∙ sym (ap (λ (o : Option ℕ). option_map (overlap_of s) o) (find_none (overlaps_by s a r) 0 many (none_overlaps a r calm)));
        up = mask_same (is_up x.state.table) (λ t. comes_up_by s a r t || stays_up s a r t) many (λ t l. stay t ∙ sym (ap (λ b. b || stays_up s a r t) (none_comes a r calm t)));
      }

  by_held : (a : Action) (b : Bool) (x : Answered Outcome) → IsCalm a Held → ((t : ℕ) → is_up s.table t ≡ stays_up s a Held t) → Right a x → Right a (held_or b s x)
  by_held a true x calm stay h = calmly a (replied s Held) refl refl calm stay
  by_held a false x calm stay h = h

  by_force : (a : Action) (k : Result Forces ForceFault) → ((r : Reply) → IsCalm a r) → ((r : Reply) (t : ℕ) → is_up s.table t ≡ stays_up s a r t) → Right a (force_replied s k)
  by_force a (Err f) calm stay = calmly a (force_replied s (Err f)) refl refl (calm _) (stay _)
  by_force a (Ok x) calm stay = calmly a (force_replied s (Ok x)) refl refl (calm _) (stay _)

  by_edit : (a : Action) (k : Result Edited EditFault) → ((r : Reply) → IsCalm a r) → ((r : Reply) (t : ℕ) → is_up s.table t ≡ stays_up s a r t) → Right a (edit_replied s k)
  by_edit a (Err f) calm stay = calmly a (edit_replied s (Err f)) refl refl (calm _) (stay _)
  by_edit a (Ok x) calm stay = calmly a (edit_replied s (Ok x)) refl refl (calm _) (stay _)

  -- ---- of one that calls_for for one task

  record CallsFor (a : Action) (t : ℕ) : Type 0 where
    within : t < many
    in_states : t < length s.table.states
    here : calls_for s a Done t ≡ true
    only : (u : ℕ) → (u ≡ t → ⊥) → calls_for s a Done u ≡ false
    stays : (u : ℕ) → stays_up s a Done u ≡ is_up s.table u

  module _ (a : Action) (t : ℕ) (h : CallsFor a t) (inhibited up : Bool) (is_inhibited : (task s.table t).inhibited ≡ inhibited) (is_up_now : is_up s.table t ≡ up) where
    comes_only : IsOnly (comes_up_by s a Done) t
    comes_only u ne = ap (λ b. (b && not (task s.table u).inhibited) && not (is_up s.table u)) (h.only u ne)

    overlaps_only : IsOnly (overlaps_by s a Done) t
    overlaps_only u ne = ap (λ b. (b && not (task s.table u).inhibited) && is_up s.table u) (h.only u ne)

    comes_here : comes_up_by s a Done t ≡ (not inhibited && not up)
    comes_here =
        ap (λ b. (b && not (task s.table t).inhibited) && not (is_up s.table t)) h.here
        ∙ (ap (λ b. not b && not (is_up s.table t)) is_inhibited ∙ ap (λ b. not inhibited && not b) is_up_now)

    overlaps_here : overlaps_by s a Done t ≡ (not inhibited && up)
    overlaps_here =
        ap (λ b. (b && not (task s.table t).inhibited) && is_up s.table t) h.here
        ∙ (ap (λ b. not b && is_up s.table t) is_inhibited ∙ ap (λ b. not inhibited && b) is_up_now)

    mask_of_one : mask_below (comes_up_by s a Done) many ≡ cond (not inhibited && not up) (2 ^ t) 0
    mask_of_one = mask_one (comes_up_by s a Done) t comes_only many h.within ∙ ap (λ b. cond b (2 ^ t) 0) comes_here

    fault_of_one : option_map (overlap_of s) (find (overlaps_by s a Done) (range_with_len 0 many)) ≡ option_map (overlap_of s) (cond (not inhibited && up) (Some t) None)
    fault_of_one =
        ap (λ (o : Option ℕ). option_map (overlap_of s) o) (find_one (overlaps_by s a Done) t overlaps_only 0 many (omega arith) (let l = h.within in omega arith) ∙ ap (λ b. cond b (Some t) None) overlaps_here)

    -- the state's table is as it was, or the task is up in it
    ups_same : (x : State) → (not inhibited && not up) ≡ false → ((u : ℕ) → is_up x.table u ≡ is_up s.table u) → mask_below (is_up x.table) many ≡ mask_below (λ u. comes_up_by s a Done u || stays_up s a Done u) many
    ups_same x none same =
        mask_same (is_up x.table) (λ u. comes_up_by s a Done u || stays_up s a Done u) many
        (λ u l. same u ∙ sym (ap (λ b. b || stays_up s a Done u) (all_false (comes_up_by s a Done) t comes_only (comes_here ∙ none) u) ∙ h.stays u))

    ups_more : (x : State) → (not inhibited && not up) ≡ true → is_up x.table t ≡ true → ((u : ℕ) → (u ≡ t → ⊥) → is_up x.table u ≡ is_up s.table u) → mask_below (is_up x.table) many ≡ mask_below (λ u. comes_up_by s a Done u || stays_up s a Done u) many
    ups_more x one there others = mask_same (is_up x.table) (λ u. comes_up_by s a Done u || stays_up s a Done u) many (λ u l. each u (cases_eq u t))
      where
        each : (u : ℕ) → (u ≡ t) ⊎ (u ≡ t → ⊥) → is_up x.table u ≡ (comes_up_by s a Done u || stays_up s a Done u)
        each u (inl e) = ap (λ k. is_up x.table k) e ∙ (there ∙ sym (ap (λ k. comes_up_by s a Done k || stays_up s a Done u) e ∙ ap (λ b. b || stays_up s a Done u) (comes_here ∙ one)))
        each u (inr ne) = others u ne ∙ sym (ap (λ b. b || stays_up s a Done u) (comes_only u ne) ∙ h.stays u)

  -- ---- a word in

  module _ (p : Project) (valid : IsValidProject p) (known : Known p s) (name : List ℕ) (word : ℕ) (v : ℤ) where
    abbrev a : Action
    a = WordIn name word v

    abbrev conns : List ConnDef
    conns = s.plan.conns

    module _ (y : State) (table : y.table ≡ s.table) (tick : y.tick ≡ s.tick) (t : ℕ) (h : CallsFor a t) (kind : overlap_code (task s.table t).kind ≡ EVENT_OVERLAP) where
      in_table : (z : Table) → z ≡ s.table → (u : ℕ) → is_up z u ≡ is_up s.table u
      in_table z e u = ap (λ (x : Table). is_up x u) e

      by_tests : (inhibited up : Bool) → (task s.table t).inhibited ≡ inhibited → is_up s.table t ≡ up → Right a (after_trigger t (after_answer (cond inhibited Inhibited (cond up Overlap Released)) t y))
      by_tests true up i u = record {
        released = sym (mask_of_one a t h true up i u);
        fault = sym (fault_of_one a t h true up i u);
        up = ups_same a t h true up i u y refl (in_table y.table table);
      }
      by_tests false true i u = record {
        released = sym (mask_of_one a t h false true i u);
        fault = ap (λ (n : ℕ). let f : Fault = record { severity = Minor; kind = TASK_FAULT; code = overlap_code (task y.table t).kind; task = t; program = None; tick = n } in Some f) tick
            ∙ (ap (λ (z : Table). let f : Fault = record { severity = Minor; kind = TASK_FAULT; code = overlap_code (task z t).kind; task = t; program = None; tick = s.tick } in Some f) table
            ∙ (ap (λ (n : ℕ). let f : Fault = record { severity = Minor; kind = TASK_FAULT; code = n; task = t; program = None; tick = s.tick } in Some f) kind ∙ sym (fault_of_one a t h false true i u)));
        up = ups_same a t h false true i u y refl (in_table y.table table);
      }
      by_tests false false i u = record {
        released = sym (mask_of_one a t h false false i u);
        fault = sym (fault_of_one a t h false false i u);
        up = ups_more a t h false false i u (after_answer Released t y).state refl
            (ap (λ (o : Option TaskState). is_some o) (get_or-set_same y.table.states t _ None (subst (λ (z : Table). t < length z.states) (sym table) h.in_states)))
            (λ k ne. ap (λ (o : Option TaskState). is_some o) (get_or-set_other y.table.states t k _ None ne) ∙ in_table y.table table k);
      }

      triggered : Right a (after_trigger t (after_answer (release_answer y.table t) t y))
      triggered =
          subst (λ (z : Table). Right a (after_trigger t (after_answer (release_answer z t) t y))) (sym table) (by_tests (task s.table t).inhibited (is_up s.table t) refl refl)

    module _ (n : ℕ) (named : conn_named conns name ≡ Some n) where
      abbrev c : ConnDef
      c = slice_index_or conns n no_conn

      same_conn : conn_of s name ≡ c
      same_conn = ap (λ (o : Option ℕ). slice_index_or conns (unwrap_or o (length conns)) no_conn) named

      called : (t : ℕ) → calls_for s a Done t ≡ (is_mode s.mode Run && (nat_eq (word + 1) c.words && is_task t c.trigger))
      called t = ap (λ (d : ConnDef). is_mode s.mode Run && (nat_eq (word + 1) d.words && is_task t d.trigger)) same_conn

      all_at : {A : Type 0} (passes : A → Bool) (xs : List A) (k : ℕ) (d : A) → list_all passes xs ≡ true → k < length xs → passes (slice_index_or xs k d) ≡ true
      all_at passes [] k d h l = absurd (omega arith)
      all_at passes (x ∷ xs) zero d h l = (and_parts (passes x) (list_all passes xs) h).0
      all_at passes (x ∷ xs) (suc k) d h l = all_at passes xs k d (and_parts (passes x) (list_all passes xs) h).1 (omega arith)

      known_trigger : has_known_trigger p.tasks c ≡ true
      known_trigger =
          let same_conns : conns ≡ p.conns = ap (λ (plan : Plan). plan.conns) known.sizes.same_plan in
          let all = subst (λ (cs : List ConnDef). list_all (has_known_trigger p.tasks) cs ≡ true) (sym same_conns) valid.triggers in
          all_at (has_known_trigger p.tasks) conns n no_conn all (found (λ (d : ConnDef). same d.name name) no_conn conns n named).0

      -- its trigger is an event task
      is_known : (t : ℕ) → c.trigger ≡ Some t → (t < length p.tasks) × (is_event (slice_index_or p.tasks t no_task).kind ≡ true)
      is_known t e =
          let f : has_known_trigger p.tasks (record c { trigger = Some t }) ≡ true = subst (λ (o : Option ℕ). has_known_trigger p.tasks (record c { trigger = o }) ≡ true) e known_trigger in
          let q = and_parts (not c.output) (is_event_task p.tasks t) f in
          let r = and_parts (nat_lt t (length p.tasks)) (is_event (slice_index_or p.tasks t no_task).kind) q.1 in
          (ltb-true t (length p.tasks) r.0, r.1)

      event_code : (k : TaskKind) → is_event k ≡ true → overlap_code k ≡ EVENT_OVERLAP
      event_code Continuous e = absurd (false≢true e)
      event_code (Periodic m) e = absurd (false≢true e)
      event_code EventTask e = refl

      code_of : (t : ℕ) → c.trigger ≡ Some t → overlap_code (task s.table t).kind ≡ EVENT_OVERLAP
      code_of t e =
          event_code (task s.table t).kind (ap (λ (ds : List TaskDef). is_event (slice_index_or ds t no_task).kind) known.sizes.same_tasks ∙ (is_known t e).1)

      calls_for_it : (t : ℕ) → s.mode ≡ Run → nat_eq (word + 1) c.words ≡ true → c.trigger ≡ Some t → CallsFor a t
      calls_for_it t mode last trigger =
          let within = (is_known t trigger).0 in
          let is : (u : ℕ) → calls_for s a Done u ≡ nat_eq t u =
          λ u. (called u ∙ (ap (λ m. is_mode m Run && (nat_eq (word + 1) c.words && is_task u c.trigger)) mode ∙ (ap (λ b. b && is_task u c.trigger) last ∙ ap (is_task u) trigger))) in
          record {
            within = subst (λ (ds : List TaskDef). t < length ds) (sym known.sizes.same_tasks) within;
            in_states = (let e = known.sizes.states in omega arith);
            here = is t ∙ eq-eqb t t refl;
            only = λ u ne. is u ∙ ne_eqb t u (λ e. ne (sym e));
            stays = λ u. refl;
          }

      -- no trigger, or not the last word
      untriggered : (b : Bool) → nat_eq (word + 1) c.words ≡ b → (if b then c.trigger else None) ≡ None → IsCalm a Done
      untriggered true last none t = called t ∙ (ap (λ (o : Option ℕ). is_mode s.mode Run && (nat_eq (word + 1) c.words && is_task t o)) none ∙ never (is_mode s.mode Run) (nat_eq (word + 1) c.words))
        where
          never : (x y : Bool) → (x && (y && false)) ≡ false
          never true true = refl
          never true false = refl
          never false y = refl
      untriggered false last none t = called t ∙ (ap (λ b. is_mode s.mode Run && (b && is_task t c.trigger)) last ∙ never (is_mode s.mode Run))
        where
          never : (x : Bool) → (x && false) ≡ false
          never true = refl
          never false = refl

      elsewhere : (m : Mode) → s.mode ≡ m → is_mode m Run ≡ false → IsCalm a Done
      elsewhere m mode other t = called t ∙ (ap (λ k. is_mode k Run && (nat_eq (word + 1) c.words && is_task t c.trigger)) mode ∙ ap (λ b. b && (nat_eq (word + 1) c.words && is_task t c.trigger)) other)

      abbrev with_image : List ℕ → State
      with_image image = record s { image = image }

      by_last : (image : List ℕ) (b : Bool) → nat_eq (word + 1) c.words ≡ b → s.mode ≡ Run → (o : Option ℕ) → c.trigger ≡ o → Right a (triggers (with_image image) Run (if b then o else None))
      by_last image true last mode (Some t) trigger = triggered (with_image image) refl refl t (calls_for_it t mode last trigger) (code_of t trigger)
      by_last image true last mode None trigger = calmly a (triggers (with_image image) Run None) refl refl (untriggered true last trigger) (λ t. refl)
      by_last image false last mode o trigger = calmly a (triggers (with_image image) Run None) refl refl (untriggered false last refl) (λ t. refl)

      by_mode : (image : List ℕ) (m : Mode) → s.mode ≡ m → (o : Option ℕ) → (if nat_eq (word + 1) c.words then c.trigger else None) ≡ o → Right a (triggers (with_image image) m o)
      by_mode image Run mode o e = subst (λ (w : Option ℕ). Right a (triggers (with_image image) Run w)) e (by_last image (nat_eq (word + 1) c.words) refl mode c.trigger refl)
      by_mode image Program mode (Some t) e = calmly a (triggers (with_image image) Program (Some t)) refl refl (elsewhere Program mode refl) (λ t. refl)
      by_mode image Program mode None e = calmly a (triggers (with_image image) Program None) refl refl (elsewhere Program mode refl) (λ t. refl)
      by_mode image Faulted mode (Some t) e = calmly a (triggers (with_image image) Faulted (Some t)) refl refl (elsewhere Faulted mode refl) (λ t. refl)
      by_mode image Faulted mode None e = calmly a (triggers (with_image image) Faulted None) refl refl (elsewhere Faulted mode refl) (λ t. refl)

      by_direction : (lt out : Bool) → c.output ≡ out → Right a (put_in s v (if lt then in_direction false out (slot_of conns n c word) else Err N2))
      by_direction true true e = calmly a (put_in s v (Err N3)) refl refl (λ t. refl) (λ t. refl)
      by_direction true false e =
          let k = slot_of conns n c word in
          by_mode (write_signed w32 s.image k.byte (forced s.forces k.io v)) s.mode refl (trigger_at c word) (sym (ap (λ b. if not b && nat_eq (word + 1) c.words then c.trigger else None) e))
      by_direction false out e = calmly a (put_in s v (Err N2)) refl refl (λ t. refl) (λ t. refl)

    by_slot : (o : Option ℕ) → conn_named conns name ≡ o → Right a (put_in s v (slot_in conns o word false))
    by_slot None named = calmly a (put_in s v (Err N1)) refl refl (λ t. refl) (λ t. refl)
    by_slot (Some n) named = let d = slice_index_or conns n no_conn in by_direction n named (nat_lt word d.words) d.output refl

  -- ---- the change to Run

  -- one that passes is counted
  passes_counted : (passes : TaskDef → Bool) (ds : List TaskDef) (t : ℕ) → t < length ds → passes (slice_index_or ds t no_task) ≡ true → 0 < count_by passes ds
  passes_counted passes [] t l e = absurd (omega arith)
  passes_counted passes (d ∷ ds) zero l e = (let c = count-cons passes d ds ∙ ap (λ b. cond b 1 0 + count_by passes ds) e in omega arith)
  passes_counted passes (d ∷ ds) (suc t) l e = (let c = count-cons passes d ds in let r = passes_counted passes ds t (omega arith) e in omega arith)

  -- of which there is but one
  one_passes : (passes : TaskDef → Bool) (ds : List TaskDef) (t u : ℕ) → count_by passes ds ≤ 1 → t < length ds → u < length ds → passes (slice_index_or ds t no_task) ≡ true → passes (slice_index_or ds u no_task) ≡ true → u ≡ t
  one_passes passes [] t u one l m e f = absurd (omega arith)
  one_passes passes (d ∷ ds) zero zero one l m e f = refl
  one_passes passes (d ∷ ds) zero (suc u) one l m e f = (let c = count-cons passes d ds ∙ ap (λ b. cond b 1 0 + count_by passes ds) e in let r = passes_counted passes ds u (omega arith) f in absurd (omega arith))
  one_passes passes (d ∷ ds) (suc t) zero one l m e f = (let c = count-cons passes d ds ∙ ap (λ b. cond b 1 0 + count_by passes ds) f in let r = passes_counted passes ds t (omega arith) e in absurd (omega arith))
  one_passes passes (d ∷ ds) (suc t) (suc u) one l m e f = (let c = count-cons passes d ds in ap suc (one_passes passes ds t u (omega arith) (omega arith) (omega arith) e f))

  module _ (p : Project) (valid : IsValidProject p) (known : Known p s) (mode : s.mode ≡ Program) where
    abbrev continuous : TaskDef → Bool
    continuous d = is_continuous d.kind

    nobody_up : (k : ℕ) → is_up s.table k ≡ false
    nobody_up k = go (state_of s.table k) refl
      where
        go : (o : Option TaskState) → state_of s.table k ≡ o → is_some o ≡ false
        go None g = refl
        go (Some u) g = absurd (let f : Program ≡ Run → ⊥ = λ e. cc in f (sym mode ∙ known.orderly.in_run k u g))

    abbrev stopped : Table
    stopped = record (stop s.table) { run_since = s.tick }

    stopped_down : (k : ℕ) → is_up stopped k ≡ false
    stopped_down k = ap (λ (o : Option TaskState). is_some o) (down_state s.table.states k)

    -- the change, by the continuous task
    abbrev ran_by : Option ℕ → Answered Outcome
    ran_by o = record {
      state = record (to_run s) { table = release_some o s.tick stopped };
      answer = record { reply = Done; fault = None; released = mask_of (option_and_then (λ t. if_released (release_answer (stop s.table) t) t) o) };
    }

    -- what is not there isn't continuous
    past_tasks : (u : ℕ) → many ≤ u → continuous (task s.table u) ≡ false
    past_tasks u l = ap continuous (get_or_past s.table.defs u no_task l)

    only_continuous : (t : ℕ) → continuous_task s.table ≡ Some t → CallsFor ModeRun t
    only_continuous t e =
        let f = found continuous no_task s.table.defs t e in
        let one : count_by continuous s.table.defs ≤ 1 = subst (λ (ds : List TaskDef). count_by continuous ds ≤ 1) (sym known.sizes.same_tasks) (leb-true (count_by continuous p.tasks) 1 valid.continuous) in
        record {
          within = f.0;
          in_states = (let l = f.0 in let n = ap (λ (ds : List TaskDef). length ds) known.sizes.same_tasks in let m = known.sizes.states in omega arith);
          here = f.1;
          only = λ u ne. other f.0 f.1 one u ne (continuous (task s.table u)) refl;
          stays = λ u. refl;
        }
      where
        other : t < many → continuous (task s.table t) ≡ true → count_by continuous s.table.defs ≤ 1 → (u : ℕ) → (u ≡ t → ⊥) → (b : Bool) → continuous (task s.table u) ≡ b → b ≡ false
        other l passes one u ne false q = refl
        other l passes one u ne true q =
            elim (cases_lt u many) [
              | inl w ↦ absurd (ne (one_passes continuous s.table.defs t u one l w passes q))
              | inr g ↦ absurd (false≢true (sym (past_tasks u g) ∙ q))
            ]

    released_by : (t : ℕ) (h : CallsFor ModeRun t) (inhibited up : Bool) → (task s.table t).inhibited ≡ inhibited → is_up stopped t ≡ up → Right ModeRun (record { state = record (to_run s) { table = put_up_if (cond inhibited Inhibited (cond up Overlap Released)) t s.tick stopped }; answer = record { reply = Done; fault = None; released = mask_of (if_released (cond inhibited Inhibited (cond up Overlap Released)) t) } })
    released_by t h true up i u = record {
      released = sym (mask_of_one ModeRun t h true false i (nobody_up t));
      fault = sym (fault_of_one ModeRun t h true false i (nobody_up t));
      up = ups_same ModeRun t h true false i (nobody_up t) (record (to_run s) { table = stopped }) refl (λ k. stopped_down k ∙ sym (nobody_up k));
    }
    released_by t h false true i u = absurd (false≢true (sym (stopped_down t) ∙ u))
    released_by t h false false i u = record {
      released = sym (mask_of_one ModeRun t h false false i (nobody_up t));
      fault = sym (fault_of_one ModeRun t h false false i (nobody_up t));
      up = ups_more ModeRun t h false false i (nobody_up t) (record (to_run s) { table = put_up_if Released t s.tick stopped }) refl
          (ap (λ (o : Option TaskState). is_some o) (get_or-set_same stopped.states t _ None (let l = h.in_states in let e = length-map s.table.states (λ (o : Option TaskState). let x : Option TaskState = None in x) in omega arith)))
          (λ k ne. ap (λ (o : Option TaskState). is_some o) (get_or-set_other stopped.states t k _ None ne) ∙ (stopped_down k ∙ sym (nobody_up k)));
    }

    by_continuous : (o : Option ℕ) → continuous_task s.table ≡ o → Right ModeRun (ran_by o)
    by_continuous None e = calmly ModeRun (ran_by None) refl refl (λ t. none_found continuous no_task s.table.defs 0 t refl e) (λ k. stopped_down k ∙ sym (nobody_up k))
    by_continuous (Some t) e = released_by t (only_continuous t e) (task s.table t).inhibited (is_up stopped t) refl refl

  -- ---- all actions

  module _ (p : Project) (valid : IsValidProject p) (known : Known p s) where
    by_run : (m : Mode) → s.mode ≡ m → Right ModeRun (mode_run_from m s)
    by_run Program e = by_continuous p valid known e (continuous_task s.table) refl
    by_run Run e = calmly ModeRun (mode_run_from Run s) refl refl (λ t. refl) (λ t. refl)
    by_run Faulted e = calmly ModeRun (mode_run_from Faulted s) refl refl (λ t. refl) (λ t. refl)

    by_program : (m : Mode) → Right ModeProgram (mode_program_from m s)
    by_program Program = calmly ModeProgram (mode_program_from Program s) refl refl (λ t. refl) (λ t. refl)
    by_program Run = calmly ModeProgram (mode_program_from Run s) refl refl (λ t. refl) (λ t. ap (λ (o : Option TaskState). is_some o) (down_state s.table.states t))
    by_program Faulted = calmly ModeProgram (mode_program_from Faulted s) refl refl (λ t. refl) (λ t. refl)

    by_clear : (m : Mode) → Right Clear (clear_from m s)
    by_clear Program = calmly Clear (clear_from Program s) refl refl (λ t. refl) (λ t. refl)
    by_clear Run = calmly Clear (clear_from Run s) refl refl (λ t. refl) (λ t. refl)
    by_clear Faulted = calmly Clear (clear_from Faulted s) refl refl (λ t. refl) (λ t. refl)

    by_take : (name : List ℕ) (word : ℕ) (k : Result Slot ConnFault) → Right (WordOut name word) (take_out s k)
    by_take name word (Err f) = calmly (WordOut name word) (take_out s (Err f)) refl refl (λ t. refl) (λ t. refl)
    by_take name word (Ok k) = calmly (WordOut name word) (take_out s (Ok k)) refl refl (λ t. refl) (λ t. refl)

    by_act : (lane : ℕ) (a : Action) → Right a (act s lane a)
    by_act lane (WordIn name word v) = by_held (WordIn name word v) (held s.table) (put_in s v (slot s.plan.conns name word false)) (λ t. refl) (λ t. refl) (by_slot p valid known name word v (conn_named s.plan.conns name) refl)
    by_act lane (WordOut name word) = by_held (WordOut name word) (held s.table) (take_out s (slot s.plan.conns name word true)) (λ t. refl) (λ t. refl) (by_take name word (slot s.plan.conns name word true))
    by_act lane (Accept c) = by_edit (Accept c) (accept s.plan.tags s.plan.names s.books lane c) (λ r t. refl) (λ r t. refl)
    by_act lane (Test n) = by_edit (Test n) (on_accepted test s.books lane n) (λ r t. refl) (λ r t. refl)
    by_act lane (Untest n) = by_edit (Untest n) (on_accepted untest s.books lane n) (λ r t. refl) (λ r t. refl)
    by_act lane (Assemble n) = by_edit (Assemble n) (on_accepted assemble s.books lane n) (λ r t. refl) (λ r t. refl)
    by_act lane (Cancel n) = by_edit (Cancel n) (on_accepted cancel s.books lane n) (λ r t. refl) (λ r t. refl)
    by_act lane (ForceInstall name word mask v) = by_force (ForceInstall name word mask v) (install_on s.forces (io_word s.plan.conns name word) mask v) (λ r t. refl) (λ r t. refl)
    by_act lane ForceEnable = by_force ForceEnable (enable s.forces) (λ r t. refl) (λ r t. refl)
    by_act lane ForceDisable = calmly ForceDisable (act s lane ForceDisable) refl refl (λ t. refl) (λ t. refl)
    by_act lane ForceRemove = by_force ForceRemove (remove_all s.forces) (λ r t. refl) (λ r t. refl)
    by_act lane ModeRun = by_held ModeRun (held s.table) (mode_run_from s.mode s) (λ t. refl) (λ t. refl) (by_run s.mode refl)
    by_act lane ModeProgram = by_held ModeProgram (held s.table) (mode_program_from s.mode s) (λ t. refl) (λ t. refl) (by_program s.mode)
    by_act lane Clear = by_held Clear (held s.table) (clear_from s.mode s) (λ t. refl) (λ t. refl) (by_clear s.mode)

-- ---- along a run

pub actions_release : (p : Project) → IsValidProject p → ActionsRelease p
actions_release p valid journal = each_stage p KeepsActionReleases here journal
  where
    here : (s : State) (e : Event) → IsReached p s → KeepsActionReleases (stage s e)
    here s events.Cpu h = tt
    here s events.Tick h = tt
    here s (events.Act lane a) h = by_act s p valid (known_at p s h) lane a
