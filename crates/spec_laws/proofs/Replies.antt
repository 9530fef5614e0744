-- The refusal law both ways: the reply is the first cause that applies, or a success where none does.
use Rattle.std.proofs.Common.{◌≡◌, ℕ, ◌+◌, ◌<◌, ◌≤◌, inl, inr, Bool, true, false, cond, List, [], ◌∷◌, ◌++◌, length, take, Option, Some, None, refl, sym, ◌∙◌, ap, subst, arith}
use Rattle.std.specs.Prelude.{ℤ, Result, Ok, Err, not, if◌then◌else◌, nat_lt, nat_le, nat_eq, is_none, option_map, unwrap_or, flat_map, slice_set, slice_index_or}
use Rattle.std.specs.Bool.{beq as agree}
use Rattle.std.specs.List.{position_from}
use Rattle.std.proofs.lemmas.Bool.{ltb-true, lt-ltb, le-ltb, lt-leb, le-leb, ne_eqb, false≢true, cases_lt}
use Rattle.std.proofs.lemmas.List.Sums.{sum_by_more_le}
use Rattle.std.proofs.lemmas.List.{get_or_past}
use Rattle.spec_base.specs.FirstCause.{◌>>=◌, unless, some_or}
use Rattle.spec_base.specs.declared.limits.TheConstants.{MAX_FORCES, MAX_PROGRAM_INSTRUCTIONS}
use Rattle.lgx_num.specs.Name.{same}
use Rattle.lgx_rung.specs.Tree.{Source}
use Rattle.lgx_rung.specs.declared.fault.CheckFault.{CheckFault}
use Rattle.spec_tables.specs.declared.conn.ConnDef.{ConnDef}
use Rattle.spec_tables.specs.declared.conn.Slot.{Slot}
use Rattle.spec_tables.specs.declared.conn.ConnFault.TheVariants.{N1, N2, N3}
use Rattle.spec_tables.specs.declared.force.ForceFault.TheVariants.{F1, F2, F3}
use Rattle.spec_tables.specs.Connections.{no_conn, conn_named, words_of, slot_of, slot_in, in_direction, io_in}
use Rattle.spec_tables.specs.Forces.{installed, no_forces}
use Rattle.spec_tables.specs.Tasks.{held}
use Rattle.spec_language.specs.Checked.{CheckScope, checked}
use Rattle.spec_scan.specs.Position.{Rungs}
use Rattle.spec_machine.specs.declared.answer.Outcome.{Outcome}
use Rattle.spec_machine.specs.Commands.{AcceptCommand}
use Rattle.spec_machine.specs.declared.event.Event.{Event}
use Rattle.spec_machine.specs.declared.event.Event.TheVariants as events
use Rattle.spec_machine.specs.declared.event.Action.{Action}
use Rattle.spec_machine.specs.declared.event.Action.TheVariants.{WordIn, WordOut, Accept, Test, Untest, Assemble, Cancel, ForceInstall, ForceEnable, ForceDisable, ForceRemove, ModeRun, ModeProgram, Clear}
use Rattle.spec_machine.specs.declared.reply.Mode.{Mode as Modes}
use Rattle.spec_machine.specs.declared.reply.Mode.TheVariants.{Program, Run, Faulted}
use Rattle.spec_machine.specs.declared.reply.ModeFault.TheVariants.{M1, M2, M3}
use Rattle.spec_machine.specs.declared.reply.EditFault.{EditFault}
use Rattle.spec_machine.specs.declared.reply.EditFault.TheVariants.{E1, E2, E3, E5, E6, E8, E9, E10, E11, E12}
use Rattle.spec_machine.specs.declared.reply.Reply.{Reply}
use Rattle.spec_machine.specs.declared.reply.Reply.TheVariants.{Done, Version, Held, Mode, Conn, Force, Edit}
use Rattle.spec_machine.specs.Edits.{Change, Book, Edited, book_at, routine_at, accept_in, other_owner, is_misplaced, first_again, taken_by, changes_in, changes_of, merged, scope_of, with_changes, instruction_count, none_or, ok_or_cause, has_accepted, test, untest, assemble, cancel}
use Rattle.spec_machine.specs.Project.{Project, RoutineText}
use Rattle.spec_machine.specs.State.{State, Plan, Answered}
use Rattle.spec_machine.specs.Actions.{held_or, triggers, put_in, take_out, install_on, force_replied, edit_replied, mode_run_from, mode_program_from, clear_from, act}
use Rattle.spec_schedule.specs.Refusals.{when, first_of, is_mode, owner_cause, text_cause, if_read, merged_causes, first_cause}
use Rattle.spec_schedule.specs.Stages.{is_refusal}
use Rattle.spec_laws.specs.Answers.{refusal_in, IsAnsweredRightly, AnswersAreRight}
use Rattle.spec_reach.proofs.Reached.{IsReached, known_at}
use Rattle.spec_laws.proofs.AlongStages.{stage, each_stage}

-- the first cause is what the reply refuses with
abbrev Rightly : Option Reply → Answered Outcome → Type 0
Rightly first x = first ≡ refusal_in x.answer.reply

taken : (first : Option Reply) (x : Answered Outcome) → first ≡ None → is_refusal x.answer.reply ≡ false → Rightly first x
taken first x none e = none ∙ sym (ap (λ b. cond b (Some x.answer.reply) None) e)

-- not less is at most
le_not_lt : (a b : ℕ) → nat_le a b ≡ not (nat_lt b a)
le_not_lt a b =
    elim (cases_lt b a) [
      | inl l ↦ lt-leb a b l ∙ ap not (sym (lt-ltb b a l))
      | inr g ↦ le-leb a b g ∙ ap not (sym (le-ltb b a g))
    ]

module _ (s : State) where
  abbrev conns : List ConnDef
  conns = s.plan.conns

  abbrev conn_at : Option ℕ → ConnDef
  conn_at o = slice_index_or conns (unwrap_or o (length conns)) no_conn

  -- ---- I/O words

  abbrev word_first : Bool → Option ℕ → ℕ → Bool → Option Reply
  word_first h o word output =
      first_of (when h Held ∷ when (is_none o) (Conn N1) ∷ when (nat_le (conn_at o).words word) (Conn N2) ∷ when (not (agree (conn_at o).output output)) (Conn N3) ∷ [])

  triggers_done : (x : State) (m : Modes) (o : Option ℕ) → is_refusal (triggers x m o).answer.reply ≡ false
  triggers_done x Run (Some t) = refl
  triggers_done x Program (Some t) = refl
  triggers_done x Faulted (Some t) = refl
  triggers_done x Run None = refl
  triggers_done x Program None = refl
  triggers_done x Faulted None = refl

  abbrev late_first : Bool → Bool → Option Reply
  late_first le wrong = first_of (None ∷ None ∷ when le (Conn N2) ∷ when wrong (Conn N3) ∷ [])

  word_in_case : (v : ℤ) (k : Slot) (lt le out : Bool) → le ≡ not lt → Rightly (late_first le (not (agree out false))) (put_in s v (if lt then in_direction false out k else Err N2))
  word_in_case v k true true out e = absurd (cc e)
  word_in_case v k true false true e = refl
  word_in_case v k true false false e = taken (late_first false (not (agree false false))) (put_in s v (Ok k)) refl (triggers_done _ s.mode k.trigger)
  word_in_case v k false true out e = refl
  word_in_case v k false false out e = absurd (cc e)

  word_in_rightly : (h : Bool) (o : Option ℕ) (word : ℕ) (v : ℤ) → Rightly (word_first h o word false) (held_or h s (put_in s v (slot_in conns o word false)))
  word_in_rightly true o word v = refl
  word_in_rightly false None word v = refl
  word_in_rightly false (Some n) word v = let c = slice_index_or conns n no_conn in word_in_case v (slot_of conns n c word) (nat_lt word c.words) (nat_le c.words word) c.output (le_not_lt c.words word)

  word_out_case : (k : Slot) (lt le out : Bool) → le ≡ not lt → Rightly (late_first le (not (agree out true))) (take_out s (if lt then in_direction true out k else Err N2))
  word_out_case k true true out e = absurd (cc e)
  word_out_case k true false true e = refl
  word_out_case k true false false e = refl
  word_out_case k false true out e = refl
  word_out_case k false false out e = absurd (cc e)

  word_out_rightly : (h : Bool) (o : Option ℕ) (word : ℕ) → Rightly (word_first h o word true) (held_or h s (take_out s (slot_in conns o word true)))
  word_out_rightly true o word = refl
  word_out_rightly false None word = refl
  word_out_rightly false (Some n) word = let c = slice_index_or conns n no_conn in word_out_case (slot_of conns n c word) (nat_lt word c.words) (nat_le c.words word) c.output (le_not_lt c.words word)

  -- ---- modes

  run_rightly : (h : Bool) (m : Modes) → Rightly (first_of (when h Held ∷ when (is_mode m Faulted) (Mode M2) ∷ when (is_mode m Run) (Mode M1) ∷ [])) (held_or h s (mode_run_from m s))
  run_rightly true m = refl
  run_rightly false Program = refl
  run_rightly false Run = refl
  run_rightly false Faulted = refl

  program_rightly : (h : Bool) (m : Modes) → Rightly (first_of (when h Held ∷ when (is_mode m Faulted) (Mode M2) ∷ when (is_mode m Program) (Mode M1) ∷ [])) (held_or h s (mode_program_from m s))
  program_rightly true m = refl
  program_rightly false Program = refl
  program_rightly false Run = refl
  program_rightly false Faulted = refl

  clear_rightly : (h : Bool) (m : Modes) → Rightly (first_of (when h Held ∷ when (not (is_mode m Faulted)) (Mode M3) ∷ [])) (held_or h s (clear_from m s))
  clear_rightly true m = refl
  clear_rightly false Program = refl
  clear_rightly false Run = refl
  clear_rightly false Faulted = refl

  -- ---- forces

  abbrev is_full : Option ℕ → Bool
  is_full None = false
  is_full (Some io) = nat_le MAX_FORCES (installed (slice_set s.forces.words io None))

  install_case : (io : ℕ) (mask v : ℤ) (there full : Bool) → there ≡ true → Rightly (first_of (None ∷ when full (Force F2) ∷ [])) (force_replied s (if not there then Err F1 else (if full then Err F2 else Ok (record s.forces { words = slice_set s.forces.words io (Some (record { mask = mask; value = v })) }))))
  install_case io mask v false full e = absurd (false≢true e)
  install_case io mask v true true e = refl
  install_case io mask v true false e = refl

  io_case : (io : ℕ) (mask v : ℤ) (lt le : Bool) → le ≡ not lt → (lt ≡ true → nat_lt io (length s.forces.words) ≡ true) → Rightly (first_of (when le (Force F1) ∷ when (is_full (if lt then Some io else None)) (Force F2) ∷ [])) (force_replied s (install_on s.forces (if lt then Some io else None) mask v))
  io_case io mask v true true e there = absurd (cc e)
  io_case io mask v true false e there = install_case io mask v (nat_lt io (length s.forces.words)) (is_full (Some io)) (there refl)
  io_case io mask v false true e there = refl
  io_case io mask v false false e there = absurd (cc e)

  -- the words of the connections before one, and its own, are among all
  words_below : (cs : List ConnDef) (n word : ℕ) → word < (slice_index_or cs n no_conn).words → words_of (take n cs) + word < words_of cs
  words_below cs n word l =
      elim (cases_lt n (length cs)) [
        | inl i ↦ (let m : words_of (take n cs) + (slice_index_or cs n no_conn).words ≤ words_of cs = sum_by_more_le (λ (c : ConnDef). c.words) cs n no_conn i in omega arith)
        | inr g ↦ (let e = ap (λ (c : ConnDef). c.words) (get_or_past cs n no_conn g) in absurd (omega arith))
      ]

  install_rightly : length s.forces.words ≡ words_of conns → (o : Option ℕ) (word : ℕ) (mask v : ℤ) → Rightly (first_of (when (nat_le (conn_at o).words word) (Force F1) ∷ when (is_full (io_in conns o word)) (Force F2) ∷ [])) (force_replied s (install_on s.forces (io_in conns o word) mask v))
  install_rightly many None word mask v =
      subst (λ (c : ConnDef). Rightly (first_of (when (nat_le c.words word) (Force F1) ∷ None ∷ [])) (force_replied s (Err F1))) (sym (get_or_past conns (length conns) no_conn (omega arith)))
      (subst (λ (b : Bool). Rightly (first_of (when b (Force F1) ∷ None ∷ [])) (force_replied s (Err F1))) (sym (le-leb 0 word (omega arith))) refl)
  install_rightly many (Some n) word mask v =
      let c = slice_index_or conns n no_conn in
      io_case (words_of (take n conns) + word) mask v (nat_lt word c.words) (nat_le c.words word) (le_not_lt c.words word)
      (λ e. lt-ltb (words_of (take n conns) + word) (length s.forces.words) (let l = words_below conns n word (ltb-true word c.words e) in omega arith))

  enable_rightly : (none : Bool) → Rightly (first_of (when none (Force F3) ∷ [])) (force_replied s (if none then Err F3 else Ok (record s.forces { enabled = true })))
  enable_rightly true = refl
  enable_rightly false = refl

  remove_rightly : (none : Bool) → Rightly (first_of (when none (Force F3) ∷ [])) (force_replied s (if none then Err F3 else Ok (no_forces (length s.forces.words))))
  remove_rightly true = refl
  remove_rightly false = refl

  -- ---- the four edits of what is accepted

  abbrev book_by : Option ℕ → Book
  book_by o = book_at s.books (unwrap_or o (length s.books))

  abbrev owner_of : Option ℕ → Option Reply
  owner_of w = option_map (λ owner. Edit (E3 owner)) w

  change_case : (n : ℕ) (w : Option ℕ) (none has : Bool) (r : Result Book EditFault) (tail : List (Option Reply)) → has ≡ not none → ((f : EditFault) → r ≡ Err f → first_of tail ≡ Some (Edit f)) → ((b : Book) → r ≡ Ok b → first_of tail ≡ None) → Rightly (first_of (None ∷ owner_of w ∷ when none (Edit E10) ∷ tail)) (edit_replied s (none_or w E3 >>= λ _. (unless has E10 >>= λ _. (r >>= λ b. Ok (record { books = slice_set s.books n b; reply = Done })))))
  change_case n (Some owner) none has r tail e k ok = refl
  change_case n None true true r tail e k ok = absurd (cc e)
  change_case n None true false r tail e k ok = refl
  change_case n None false true (Err f) tail e k ok = k f refl
  change_case n None false true (Ok b) tail e k ok = ok b refl
  change_case n None false false r tail e k ok = absurd (cc e)

  has_or_none : (b : Book) → has_accepted b ≡ not (nat_eq (length b.accepted) 0)
  has_or_none b = go b.accepted
    where
      go : {A : Type 0} (xs : List A) → nat_lt 0 (length xs) ≡ not (nat_eq (length xs) 0)
      go [] = refl
      go (x ∷ xs) = lt-ltb 0 (length (x ∷ xs)) (omega arith) ∙ ap not (sym (ne_eqb (length (x ∷ xs)) 0 (λ e. (omega arith))))

  edits_rightly : (lane : ℕ) (change : Book → Result Book EditFault) (o : Option ℕ) (tail : Book → List (Option Reply)) → ((b : Book) (f : EditFault) → change b ≡ Err f → first_of (tail b) ≡ Some (Edit f)) → ((b c : Book) → change b ≡ Ok c → first_of (tail b) ≡ None) → Rightly (first_of (when (is_none o) (Edit E1) ∷ owner_of (other_owner (book_by o) lane) ∷ when (nat_eq (length (book_by o).accepted) 0) (Edit E10) ∷ tail (book_by o))) (edit_replied s (some_or o E1 >>= λ n. (none_or (other_owner (book_at s.books n) lane) E3 >>= λ _. (unless (has_accepted (book_at s.books n)) E10 >>= λ _. (change (book_at s.books n) >>= λ b. Ok (record { books = slice_set s.books n b; reply = Done }))))))
  edits_rightly lane change None tail k ok = refl
  edits_rightly lane change (Some n) tail k ok =
      let b = book_at s.books n in
      change_case n (other_owner b lane) (nat_eq (length b.accepted) 0) (has_accepted b) (change b) (tail b) (has_or_none b) (k b) (ok b)

  test_fault : (b : Book) (f : EditFault) → test b ≡ Err f → first_of (when b.testing (Edit E11) ∷ []) ≡ Some (Edit f)
  test_fault b f e = go b.testing e
    where
      go : (t : Bool) → test (record b { testing = t }) ≡ Err f → first_of (when t (Edit E11) ∷ []) ≡ Some (Edit f)
      go true e = ap (λ (x : EditFault). Some (Edit x)) (cc e)
      go false e = absurd (cc e)

  untest_fault : (b : Book) (f : EditFault) → untest b ≡ Err f → first_of (when (not b.testing) (Edit E12) ∷ []) ≡ Some (Edit f)
  untest_fault b f e = go b.testing e
    where
      go : (t : Bool) → untest (record b { testing = t }) ≡ Err f → first_of (when (not t) (Edit E12) ∷ []) ≡ Some (Edit f)
      go true e = absurd (cc e)
      go false e = ap (λ (x : EditFault). Some (Edit x)) (cc e)

  test_taken : (b c : Book) → test b ≡ Ok c → first_of (when b.testing (Edit E11) ∷ []) ≡ None
  test_taken b c e = go b.testing e
    where
      go : (t : Bool) → test (record b { testing = t }) ≡ Ok c → first_of (when t (Edit E11) ∷ []) ≡ None
      go true e = absurd (cc e)
      go false e = refl

  untest_taken : (b c : Book) → untest b ≡ Ok c → first_of (when (not b.testing) (Edit E12) ∷ []) ≡ None
  untest_taken b c e = go b.testing e
    where
      go : (t : Bool) → untest (record b { testing = t }) ≡ Ok c → first_of (when (not t) (Edit E12) ∷ []) ≡ None
      go true e = refl
      go false e = absurd (cc e)

  -- ---- an accept

  module _ (lane n r : ℕ) (b : Book) (command : AcceptCommand) (scope : CheckScope) where
    abbrev source_of : List Change → List Source
    source_of changes = merged (routine_at b.base r).source (changes_in b r ++ changes)

    abbrev booked : Result Book EditFault → Answered Outcome
    booked x = edit_replied s (x >>= λ b'. Ok (record { books = slice_set s.books n b'; reply = Version b'.newest }))

    by_count : (b' : Book) (le gt : Bool) → gt ≡ not le → Rightly (first_of (when gt (Edit E9) ∷ [])) (booked (unless le E9 >>= λ _. Ok b'))
    by_count b' true true e = absurd (cc e)
    by_count b' true false e = refl
    by_count b' false true e = refl
    by_count b' false false e = absurd (cc e)

    abbrev with_rungs : List Change → Rungs → Book
    with_rungs changes rungs = with_changes lane r changes (source_of changes) rungs b

    abbrev from_rungs : List Change → Rungs → Result Book EditFault
    from_rungs changes rungs = unless (nat_le (instruction_count (with_rungs changes rungs).merged) MAX_PROGRAM_INSTRUCTIONS) E9 >>= λ _. Ok (with_rungs changes rungs)

    abbrev checked_causes : List Change → Result Rungs CheckFault → List (Option Reply)
    checked_causes changes (Err f) = Some (Edit (E8 f)) ∷ []
    checked_causes changes (Ok rungs) = when (nat_lt MAX_PROGRAM_INSTRUCTIONS (instruction_count (with_rungs changes rungs).merged)) (Edit E9) ∷ []

    gt_not_le : (x m : ℕ) → nat_lt m x ≡ not (nat_le x m)
    gt_not_le x m =
        elim (cases_lt m x) [
          | inl l ↦ lt-ltb m x l ∙ ap not (sym (lt-leb x m l))
          | inr g ↦ le-ltb m x g ∙ ap not (sym (le-leb x m g))
        ]

    by_check : (changes : List Change) (x : Result Rungs CheckFault) → Rightly (first_of (checked_causes changes x)) (booked (ok_or_cause x E8 >>= from_rungs changes))
    by_check changes (Err f) = refl
    by_check changes (Ok rungs) = let m = instruction_count (with_rungs changes rungs).merged in by_count (with_rungs changes rungs) (nat_le m MAX_PROGRAM_INSTRUCTIONS) (nat_lt MAX_PROGRAM_INSTRUCTIONS m) (gt_not_le m MAX_PROGRAM_INSTRUCTIONS)

    abbrev from_changes : List Change → Result Book EditFault
    from_changes changes = ok_or_cause (checked scope (source_of changes)) E8 >>= from_rungs changes

    by_texts : (x : Result (List Change) EditFault) → Rightly (first_of (text_cause x ∷ if_read x (merged_causes scope lane r b))) (booked (x >>= from_changes))
    by_texts (Err f) = refl
    by_texts (Ok changes) = by_check changes (checked scope (source_of changes))

    by_causes : (w five six : Option ℕ) → Rightly (first_of (None ∷ owner_of w ∷ option_map (λ k. Edit (E5 k)) five ∷ option_map (λ k. Edit (E6 k)) six ∷ text_cause (changes_of 0 command.edits) ∷ if_read (changes_of 0 command.edits) (merged_causes scope lane r b))) (booked (none_or w E3 >>= λ _. (none_or five E5 >>= λ _. (none_or six E6 >>= λ _. (changes_of 0 command.edits >>= from_changes)))))
    by_causes (Some owner) five six = refl
    by_causes None (Some k) six = refl
    by_causes None None (Some k) = refl
    by_causes None None None = by_texts (changes_of 0 command.edits)

  -- the causes of an accept, by the program and the routine that are named
  abbrev accept_list : ℕ → AcceptCommand → Option ℕ → Option ℕ → List (Option Reply)
  accept_list lane command o None = when (is_none o) (Edit E1) ∷ Some (Edit E2) ∷ []
  accept_list lane command o (Some r) =
      let b = book_by o in
      when (is_none o) (Edit E1) ∷ owner_cause b lane ∷ option_map (λ k. Edit (E5 k)) (position_from (is_misplaced (length (routine_at b.base r).source)) 0 command.edits) ∷ option_map (λ k. Edit (E6 k)) (first_again 0 (flat_map taken_by (changes_in b r)) command.edits) ∷ text_cause (changes_of 0 command.edits) ∷ if_read (changes_of 0 command.edits) (merged_causes (scope_of s.plan.tags s.plan.names (unwrap_or o (length s.books)) b) lane r b)

  abbrev accept_by : ℕ → AcceptCommand → ℕ → Option ℕ → Result Edited EditFault
  accept_by lane command n o = some_or o E2 >>= λ r. (accept_in (scope_of s.plan.tags s.plan.names n (book_at s.books n)) lane r command.edits (book_at s.books n) >>= λ b. Ok (record { books = slice_set s.books n b; reply = Version b.newest }))

  accept_named : (lane : ℕ) (command : AcceptCommand) (n : ℕ) (o : Option ℕ) → Rightly (first_of (accept_list lane command (Some n) o)) (edit_replied s (accept_by lane command n o))
  accept_named lane command n None = refl
  accept_named lane command n (Some r) =
      let b = book_at s.books n in
      by_causes lane n r b command (scope_of s.plan.tags s.plan.names n b) (other_owner b lane) (position_from (is_misplaced (length (routine_at b.base r).source)) 0 command.edits) (first_again 0 (flat_map taken_by (changes_in b r)) command.edits)

  accept_unnamed : (lane : ℕ) (command : AcceptCommand) (r : Option ℕ) → Rightly (first_of (accept_list lane command None r)) (edit_replied s (Err E1))
  accept_unnamed lane command None = refl
  accept_unnamed lane command (Some r) = refl

  abbrev routine_of : Book → List ℕ → Option ℕ
  routine_of b name = position_from (λ (r : RoutineText). same r.name name) 0 b.base

  accept_rightly : (lane : ℕ) (command : AcceptCommand) (o : Option ℕ) → Rightly (first_of (accept_list lane command o (routine_of (book_by o) command.routine))) (edit_replied s (some_or o E1 >>= λ n. accept_by lane command n (routine_of (book_at s.books n) command.routine)))
  accept_rightly lane command None = accept_unnamed lane command (routine_of (book_by None) command.routine)
  accept_rightly lane command (Some n) = accept_named lane command n (routine_of (book_at s.books n) command.routine)

  -- ---- all actions

  abbrev program_of : List ℕ → Option ℕ
  program_of name = position_from (λ (b : Book). same b.name name) 0 s.books

  act_rightly : length s.forces.words ≡ words_of conns → (lane : ℕ) (a : Action) → Rightly (first_cause s lane a) (act s lane a)
  act_rightly many lane (WordIn conn word v) = word_in_rightly (held s.table) (conn_named conns conn) word v
  act_rightly many lane (WordOut conn word) = word_out_rightly (held s.table) (conn_named conns conn) word
  act_rightly many lane (Accept command) = accept_rightly lane command (program_of command.program)
  act_rightly many lane (Test name) = edits_rightly lane test (program_of name) (λ b. when b.testing (Edit E11) ∷ []) test_fault test_taken
  act_rightly many lane (Untest name) = edits_rightly lane untest (program_of name) (λ b. when (not b.testing) (Edit E12) ∷ []) untest_fault untest_taken
  act_rightly many lane (Assemble name) = edits_rightly lane assemble (program_of name) (λ b. []) (λ b f e. absurd (cc e)) (λ b c e. refl)
  act_rightly many lane (Cancel name) = edits_rightly lane cancel (program_of name) (λ b. []) (λ b f e. absurd (cc e)) (λ b c e. refl)
  act_rightly many lane (ForceInstall conn word mask v) = install_rightly many (conn_named conns conn) word mask v
  act_rightly many lane ForceEnable = enable_rightly (nat_eq (installed s.forces.words) 0)
  act_rightly many lane ForceDisable = refl
  act_rightly many lane ForceRemove = remove_rightly (nat_eq (installed s.forces.words) 0)
  act_rightly many lane ModeRun = run_rightly (held s.table) s.mode
  act_rightly many lane ModeProgram = program_rightly (held s.table) s.mode
  act_rightly many lane Clear = clear_rightly (held s.table) s.mode

-- ---- along a run

stage_rightly : (p : Project) (s : State) (e : Event) → IsReached p s → IsAnsweredRightly (stage s e)
stage_rightly p s events.Cpu h = tt
stage_rightly p s events.Tick h = tt
stage_rightly p s (events.Act lane a) h =
    let z = (known_at p s h).sizes in
    act_rightly s (z.words ∙ ap (λ (plan : Plan). words_of plan.conns) (sym z.same_plan)) lane a

pub answers_are_right : (p : Project) → AnswersAreRight p
answers_are_right p journal = each_stage p IsAnsweredRightly (stage_rightly p) journal
