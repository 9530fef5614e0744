-- A synchronous copy is whole: while it is in progress only its task steps, each step copies an element, and nothing else
-- changes a byte.
use Rattle.std.proofs.Common.{◌≡◌, ℕ, zero, suc, ◌+◌, ◌*◌, ◌<◌, ◌≤◌, ◌⊎◌, inl, inr, Bool, true, false, cond, List, [], ◌∷◌, length, Option, Some, None, refl, sym, ◌∙◌, ap, subst, arith, eq-eqb}
use Rattle.std.specs.Prelude.{not, ◌&&◌, ◌||◌, nat_lt, nat_le, find, Result, Ok, Err, ℤ, slice_index_or}
use Rattle.std.specs.List.{list_any}
use Rattle.std.proofs.lemmas.Bool.{and_from, and_right, or_left, or_right, or_from, false≢true, not_from_false, ltb-true, ltb-false, lt-leb, le-leb}
use Rattle.spec_tables.specs.declared.force.ForceFault.{ForceFault}
use Rattle.spec_tables.specs.declared.task.TaskDef.{TaskDef}
use Rattle.spec_tables.specs.Connections.{io_word}
use Rattle.spec_tables.specs.Forces.{Forces, enable, remove_all}
use Rattle.spec_tables.specs.Tasks.{TaskState, state_of, is_open, chosen, held, has_open_cps}
use Rattle.spec_scan.specs.declared.bound.Copying.{Copying}
use Rattle.spec_scan.specs.declared.bound.Effect.TheVariants.{Copied}
use Rattle.spec_scan.specs.Copies.{copy_element, after_element}
use Rattle.spec_scan.specs.Scan.{Advanced, in_progress}
use Rattle.spec_base.proofs.Lists.{value_of_some}
use Rattle.spec_scan.specs.CopyBounds.{SourceInBounds}
use Rattle.spec_machine.specs.declared.answer.Outcome.{Outcome}
use Rattle.spec_machine.specs.declared.answer.Mark.{Mark}
use Rattle.spec_machine.specs.declared.answer.Mark.TheVariants as marks
use Rattle.spec_machine.specs.declared.answer.Moment.{Moment}
use Rattle.spec_machine.proofs.OrderlyLaws.{step_of_up_task}
use Rattle.spec_machine.specs.declared.event.Event.{Event}
use Rattle.spec_machine.specs.declared.event.Event.TheVariants as events
use Rattle.spec_machine.specs.declared.event.Action.{Action}
use Rattle.spec_machine.specs.declared.event.Action.TheVariants.{WordIn, WordOut, Accept, Test, Untest, Assemble, Cancel, ForceInstall, ForceEnable, ForceDisable, ForceRemove, ModeRun, ModeProgram, Clear}
use Rattle.spec_machine.specs.declared.reply.EditFault.{EditFault}
use Rattle.spec_machine.specs.Edits.{Edited, accept, on_accepted, test, untest, assemble, cancel}
use Rattle.spec_machine.specs.Project.{Project}
use Rattle.spec_machine.specs.ProcessorStep.{task_of, processor_step, task_step, scan_step, after_advance}
use Rattle.spec_machine.specs.State.{State, Scan, Progress, progress_of, start, Answered}
use Rattle.spec_machine.specs.Actions.{held_or, install_on, edit_replied, force_replied, act}
use Rattle.spec_machine.specs.Machine.{TraceEntry, OfStep, step}
use Rattle.spec_machine.specs.ValidProject.{IsValidProject}
use Rattle.spec_machine.proofs.OrderlyTables.{only_chosen}
use Rattle.spec_schedule.specs.declared.trace.TraceMark.{TraceMark}
use Rattle.spec_schedule.specs.declared.trace.TraceMark.TheVariants as mark
use Rattle.spec_schedule.specs.Counting.{is_task}
use Rattle.spec_schedule.specs.Legal.{each_from}
use Rattle.spec_schedule.specs.Stages.{Stage, stages_from, sync_start, sync_end, starts_or_ends, is_apart, is_copied, copy_in, ends_whole, keeps_copy}
use Rattle.spec_reach.specs.Scans.{is_syncing, syncs}
use Rattle.spec_reach.proofs.Changes.{TaskView, view_of, Change, Stays, Rotates, GoesDown, ComesUp, Restarts, Begins, Goes, Ends, starts_copy, ends_copy, changed, CopyGoes, Makes, Happens, Known}
use Rattle.spec_reach.proofs.Images.{advance_image, tick_image}
use Rattle.spec_reach.proofs.Least.{none_chosen}
use Rattle.spec_reach.proofs.Reached.{IsReached, reached_start, reached_next, happens, known_at}
use Rattle.spec_reach.proofs.StepChanges.{own_copied}
use Rattle.spec_reach.proofs.Views.{within_states, chosen_known}
use Rattle.spec_copies.specs.Standing.{IsCopyIn, CopiesIn, StandsIn}
use Rattle.spec_copies.specs.WholeCopies.{RunsCopyWhole}
use Rattle.spec_copies.proofs.CopiedBytes.{IsAtElement, CopiedSoFar, AreApart, apart_of, begins_copied, element_copied, all_copied}
use Rattle.spec_copies.proofs.Standing.{stands_at, image_at}

-- ---- held actions

-- a CPS that is open holds
pub any_held : (us : List (Option TaskState)) (t : ℕ) → has_open_cps (slice_index_or us t None) ≡ true → list_any has_open_cps us ≡ true
any_held [] t h = absurd (false≢true h)
any_held (u ∷ us) zero h = or_left (has_open_cps u) (list_any has_open_cps us) h
any_held (u ∷ us) (suc t) h = or_right (has_open_cps u) (list_any has_open_cps us) (any_held us t h)

-- the image after an action
abbrev KeepsImage : State → Answered Outcome → Type 0
KeepsImage s a = a.state.image ≡ s.image

held_image : (b : Bool) (s : State) (a : Answered Outcome) → b ≡ true → KeepsImage s (held_or b s a)
held_image true s a h = refl
held_image false s a h = absurd (false≢true h)

edit_image : (s : State) (x : Result Edited EditFault) → KeepsImage s (edit_replied s x)
edit_image s (Ok e) = refl
edit_image s (Err f) = refl

force_image : (s : State) (x : Result Forces ForceFault) → KeepsImage s (force_replied s x)
force_image s (Ok e) = refl
force_image s (Err f) = refl

act_image : (s : State) (lane : ℕ) (a : Action) → held s.table ≡ true → KeepsImage s (act s lane a)
act_image s lane (WordIn conn word v) h = held_image (held s.table) s _ h
act_image s lane (WordOut conn word) h = held_image (held s.table) s _ h
act_image s lane (Accept c) h = edit_image s (accept s.plan.tags s.plan.names s.books lane c)
act_image s lane (Test n) h = edit_image s (on_accepted test s.books lane n)
act_image s lane (Untest n) h = edit_image s (on_accepted untest s.books lane n)
act_image s lane (Assemble n) h = edit_image s (on_accepted assemble s.books lane n)
act_image s lane (Cancel n) h = edit_image s (on_accepted cancel s.books lane n)
act_image s lane (ForceInstall conn word mask v) h = force_image s (install_on s.forces (io_word s.plan.conns conn word) mask v)
act_image s lane ForceEnable h = force_image s (enable s.forces)
act_image s lane ForceDisable h = refl
act_image s lane ForceRemove h = force_image s (remove_all s.forces)
act_image s lane ModeRun h = held_image (held s.table) s _ h
act_image s lane ModeProgram h = held_image (held s.table) s _ h
act_image s lane Clear h = held_image (held s.table) s _ h

-- ---- a step that copies an element

abbrev pub rest_copy : Copying → Bool → Option Copying
rest_copy c true = Some (after_element c)
rest_copy c false = None

module _ (s : State) (t : ℕ) (scan : Scan) (now : Copying) where
  abbrev pub q : Progress
  q = progress_of s t

  abbrev pub copied : Bool → Bool → Option Copying → Advanced
  copied done sync rest = record { position = record scan.position { copy = rest }; image = copy_element now s.image; flags = q.flags; effect = Copied done sync }

  abbrev pub stepped : Bool → Bool → Option Copying → Answered Moment
  stepped done sync rest = after_advance s t q scan (copied done sync rest)

  pub copying : chosen s.table ≡ Some t → q.scan ≡ Some scan → scan.position.copy ≡ Some now → processor_step s ≡ stepped (nat_le now.left 1) now.sync (rest_copy now (nat_lt 1 now.left))
  copying c was copy =
      ap (task_step s) c
      ∙ (ap (scan_step s t q) was ∙ ap (λ (o : Option Copying). after_advance s t q scan (in_progress scan.rungs scan.position s.image s.tick scan.first q.flags o)) copy)

-- ---- the task whose CPS is open

up_open : (o : Option TaskState) → has_open_cps o ≡ true → (v : TaskState) × (o ≡ Some v) × (is_open (Some v) ≡ true)
up_open None h = absurd (false≢true h)
up_open (Some v) h = (v, refl, or_right (nat_lt 0 v.region_count) v.cps_open h)

-- it is chosen
pub open_is_chosen : (p : Project) (s : State) (t : ℕ) → IsReached p s → has_open_cps (state_of s.table t) ≡ true → chosen s.table ≡ Some t
open_is_chosen p s t r h = go (chosen s.table) refl
  where
    v : (v : TaskState) × (state_of s.table t ≡ Some v) × (is_open (Some v) ≡ true)
    v = up_open (state_of s.table t) h

    known : Known p s
    known = known_at p s r

    go : (o : Option ℕ) → chosen s.table ≡ o → o ≡ Some t
    go None e = absurd (none_chosen s.table t v.0 e (let a = within_states s.table.states t v.0 v.1 in let b = known.sizes.states in let d = ap (λ (xs : List TaskDef). length xs) known.sizes.same_tasks in omega arith) v.1)
    go (Some q) e = ap (λ n. Some n) (sym (only_chosen s.mode s.table q t v.0 known.orderly e v.1 v.2))

-- ---- from the start on

-- the copy is in progress
pub record InCopy (s : State) (t : ℕ) (c : Copying) (first : List ℕ) : Type 0 where
  pub scan : Scan
  pub was : (progress_of s t).scan ≡ Some scan
  pub now : Copying
  pub copy : scan.position.copy ≡ Some now
  pub sync : now.sync ≡ true
  pub elements : ℕ
  pub at : IsAtElement c now elements
  pub bytes : CopiedSoFar c first s.image elements

abbrev pub Phase : State → ℕ → Copying → List ℕ → Type 0
Phase s t c first = InCopy s t c first ⊎ (syncs (progress_of s t).scan ≡ false)

module _ (p : Project) (valid : IsValidProject p) (t : ℕ) (within : t < length p.tasks) (c : Copying) (begun : Stage) (apart : AreApart c (length begun.after.image)) where
  abbrev first : List ℕ
  first = begun.after.image

  abbrev InPhase : State → Type 0
  InPhase s = Phase s t c first

  -- what is to be shown of the stage that is found
  abbrev Whole : Option Stage → Type 0
  Whole o = ends_whole t begun (Some c) o ≡ true

  whole_or : (b x : Bool) (y : Stage) → is_copied c begun.after y.after ≡ true → (not (b && x) || is_copied c begun.after y.after) ≡ true
  whole_or b x y h = or_right (not (b && x)) (is_copied c begun.after y.after) h

  no_end : (b x z : Bool) → b ≡ false → (not (b && x) || z) ≡ true
  no_end true x z h = absurd (false≢true (sym h))
  no_end false x z h = refl

  open_flag : (s : State) → IsReached p s → InCopy s t c first → has_open_cps (state_of s.table t) ≡ true
  open_flag s r h = ((known_at p s r).sound t).agrees ∙ (ap syncs h.was ∙ (ap is_syncing h.copy ∙ h.sync))

  -- the task of a copy is chosen
  is_chosen : (s : State) → IsReached p s → InCopy s t c first → chosen s.table ≡ Some t
  is_chosen s r h = open_is_chosen p s t r (open_flag s r h)

  -- ---- a tick or an action in the copy

  scan_kept : (s : State) (e : Event) → (e ≡ events.Cpu → ⊥) → InCopy s t c first → (x : Change) → Makes s e t x → (step s e).state.image ≡ s.image → (progress_of (step s e).state t).scan ≡ (changed x (view_of s t)).scan → InPhase (step s e).state
  scan_kept s e other h x m image scan = go x m scan
    where
      same : (progress_of (step s e).state t).scan ≡ (progress_of s t).scan → InPhase (step s e).state
      same k = inl (record { scan = h.scan; was = k ∙ h.was; now = h.now; copy = h.copy; sync = h.sync; elements = h.elements; at = h.at; bytes = subst (λ (i : List ℕ). CopiedSoFar c first i h.elements) (sym image) h.bytes })

      go : (y : Change) → Makes s e t y → (progress_of (step s e).state t).scan ≡ (changed y (view_of s t)).scan → InPhase (step s e).state
      go Stays m k = same k
      go (Rotates n) m k = same k
      go GoesDown m k = inr (ap syncs k)
      go (ComesUp now rank) m k = inr (ap syncs k)
      go (Restarts now rank) m k = inr (ap syncs k)
      go (Begins scan) m k = absurd (other m.0.step)
      go (Goes mark scan) m k = absurd (other m.0.step)
      go Ends m k = inr (ap syncs k)

  kept_phase : (s : State) (e : Event) → (e ≡ events.Cpu → ⊥) → IsReached p s → InCopy s t c first → (step s e).state.image ≡ s.image → InPhase (step s e).state
  kept_phase s e other r h image =
      let x = happens p s e t (known_at p s r) within in
      scan_kept s e other h x.change x.makes image (ap (λ (v : TaskView). v.scan) x.view)

  -- ---- out of the copy

  out_next : (s : State) (e : Event) (x : Change) → Makes s e t x → syncs (progress_of s t).scan ≡ false → starts_copy x ≡ false → syncs (changed x (view_of s t)).scan ≡ false
  out_next s e Stays m out none = out
  out_next s e (Rotates n) m out none = out
  out_next s e GoesDown m out none = refl
  out_next s e (ComesUp now rank) m out none = refl
  out_next s e (Restarts now rank) m out none = refl
  out_next s e (Begins scan) m out none = ap (λ (y : Scan). is_syncing y.position.copy) m.2
  out_next s e (Goes k scan) m out none = go k m.1.copy none
    where
      before : is_syncing m.1.before.position.copy ≡ false
      before = sym (ap syncs m.1.was) ∙ out

      go : (k : TraceMark) → CopyGoes k m.1.before.position.copy scan.position.copy → starts_copy (Goes k scan) ≡ false → is_syncing scan.position.copy ≡ false
      go mark.Plain e none = e ∙ before
      go mark.Up e none = e ∙ before
      go mark.Down e none = e ∙ before
      go (mark.Trigger u) e none = e ∙ before
      go mark.Copy e none = e ∙ before
      go mark.Sync e none = absurd (false≢true (sym none))
      go mark.CopyEnd e none = e ∙ before
      go mark.SyncEnd e none = e.1
  out_next s e Ends m out none = refl

  -- outside it none ends
  none_ends : (s : State) (e : Event) (x : Change) → Makes s e t x → syncs (progress_of s t).scan ≡ false → ends_copy x ≡ false
  none_ends s e Stays m out = refl
  none_ends s e (Rotates n) m out = refl
  none_ends s e GoesDown m out = refl
  none_ends s e (ComesUp now rank) m out = refl
  none_ends s e (Restarts now rank) m out = refl
  none_ends s e (Begins scan) m out = refl
  none_ends s e (Goes mark.Plain scan) m out = refl
  none_ends s e (Goes mark.Up scan) m out = refl
  none_ends s e (Goes mark.Down scan) m out = refl
  none_ends s e (Goes (mark.Trigger u) scan) m out = refl
  none_ends s e (Goes mark.Copy scan) m out = refl
  none_ends s e (Goes mark.Sync scan) m out = refl
  none_ends s e (Goes mark.CopyEnd scan) m out = refl
  none_ends s e (Goes mark.SyncEnd scan) m out = absurd (false≢true (sym out ∙ (ap syncs m.1.was ∙ m.1.copy.0)))
  none_ends s e Ends m out = refl

  -- ---- one stage after another

  abbrev Found : List Stage → Type 0
  Found ys = Whole (find (starts_or_ends t) ys)

  abbrev stage : (s : State) → TraceEntry → State → Stage
  stage s entry next = record { before = s; entry = entry; after = next }

  -- a stage that neither starts nor ends one is passed
  passed : (y : Stage) (ys : List Stage) → starts_or_ends t y ≡ false → Found ys → Found (y ∷ ys)
  passed y ys e h = subst (λ (b : Bool). Whole (cond b (Some y) (find (starts_or_ends t) ys))) (sym e) h

  -- the one that is found
  found : (y : Stage) (ys : List Stage) → starts_or_ends t y ≡ true → Whole (Some y) → Found (y ∷ ys)
  found y ys e h = subst (λ (b : Bool). Whole (cond b (Some y) (find (starts_or_ends t) ys))) (sym e) h

  -- a copy that has left fewer elements
  after_left : (now : Copying) (k : ℕ) → IsAtElement c now k → 0 < now.left → IsAtElement c (after_element now) (k + 1)
  after_left now k h some =
      let a = h.source in
      let b = h.target in
      let d = h.size in
      let l = h.left in
      let more : c.size * (k + 1) ≡ c.size * k + c.size = omega arith in
      record { source = omega arith; target = omega arith; size = h.size; left = omega arith; plain = h.plain }

  module _ (s : State) (es : List Event) (r : IsReached p s) (h : InCopy s t c first) where
    abbrev its_scan : Scan
    its_scan = h.scan

    abbrev its_copy : Copying
    its_copy = h.now

    standing : StandsIn (length p.image) its_scan.position
    standing = stands_at p valid s t its_scan r h.was

    some_left : 0 < its_copy.left
    some_left = (subst (CopiesIn (length p.image)) h.copy standing.copy).some

    bytes_next : CopiedSoFar c first (copy_element its_copy s.image) (h.elements + 1)
    bytes_next = element_copied c its_copy h.elements first s.image h.at some_left apart h.bytes

    -- what follows a step
    abbrev Goal : Answered Moment → Type 0
    Goal x = Found (stage s (OfStep x.answer) x.state ∷ stages_from x.state es)

    abbrev Follow : Answered Moment → Type 0
    Follow x = InPhase x.state → Found (stages_from x.state es)

    -- the last element
    last_element : its_copy.left ≤ 1 → Goal (stepped s t its_scan its_copy true true (rest_copy its_copy (nat_lt 1 its_copy.left)))
    last_element few =
        let x = stepped s t its_scan its_copy true true (rest_copy its_copy (nat_lt 1 its_copy.left)) in
        let y = stage s (OfStep x.answer) x.state in
        let image : x.state.image ≡ copy_element its_copy s.image = advance_image s t (progress_of s t) its_scan (copied s t its_scan its_copy true true (rest_copy its_copy (nat_lt 1 its_copy.left))) in
        let all : h.elements + 1 ≡ c.left = (let l = h.at.left in let n = some_left in omega arith) in
        let done = subst (λ (k : ℕ). CopiedSoFar c first (copy_element its_copy s.image) k) all bytes_next in
        found y (stages_from x.state es) (eq-eqb t t refl)
        (whole_or (is_task t (sync_end y.entry)) (is_apart c) y (all_copied c begun.after x.state apart (subst (λ (i : List ℕ). CopiedSoFar c first i c.left) (sym image) done)))

    -- another element
    more_elements : 1 < its_copy.left → Follow (stepped s t its_scan its_copy false true (Some (after_element its_copy))) → Goal (stepped s t its_scan its_copy false true (Some (after_element its_copy)))
    more_elements many follow =
        let a = copied s t its_scan its_copy false true (Some (after_element its_copy)) in
        let x = stepped s t its_scan its_copy false true (Some (after_element its_copy)) in
        let y = stage s (OfStep x.answer) x.state in
        let image : x.state.image ≡ copy_element its_copy s.image = advance_image s t (progress_of s t) its_scan a in
        let made = own_copied p s t (chosen_known p s t (known_at p s r) (is_chosen s r h)) its_scan a true in
        passed y (stages_from x.state es) refl (follow (inl (record {
          scan = record its_scan { position = a.position };
          was = ap (λ (v : TaskView). v.scan) made.view;
          now = after_element its_copy;
          copy = refl;
          sync = h.sync;
          elements = h.elements + 1;
          at = after_left its_copy h.elements h.at some_left;
          bytes = subst (λ (i : List ℕ). CopiedSoFar c first i (h.elements + 1)) (sym image) bytes_next;
        })))

    by_left : (b : Bool) → nat_lt 1 its_copy.left ≡ b → Follow (stepped s t its_scan its_copy (nat_le its_copy.left 1) true (rest_copy its_copy (nat_lt 1 its_copy.left))) → Goal (stepped s t its_scan its_copy (nat_le its_copy.left 1) true (rest_copy its_copy (nat_lt 1 its_copy.left)))
    by_left true e follow =
        let n : nat_le its_copy.left 1 ≡ false = lt-leb its_copy.left 1 (ltb-true 1 its_copy.left e) in
        let same : stepped s t its_scan its_copy (nat_le its_copy.left 1) true (rest_copy its_copy (nat_lt 1 its_copy.left)) ≡ stepped s t its_scan its_copy false true (Some (after_element its_copy)) =
        ap (λ (d : Bool). stepped s t its_scan its_copy d true (rest_copy its_copy (nat_lt 1 its_copy.left))) n ∙ ap (λ (b : Bool). stepped s t its_scan its_copy false true (rest_copy its_copy b)) e in
        subst Goal (sym same) (more_elements (ltb-true 1 its_copy.left e) (subst Follow same follow))
    by_left false e follow =
        let n : nat_le its_copy.left 1 ≡ true = le-leb its_copy.left 1 (ltb-false 1 its_copy.left e) in
        subst (λ (d : Bool). Goal (stepped s t its_scan its_copy d true (rest_copy its_copy (nat_lt 1 its_copy.left)))) (sym n) (last_element (ltb-false 1 its_copy.left e))

    at_step : Follow (processor_step s) → Goal (processor_step s)
    at_step follow =
        let same : processor_step s ≡ stepped s t its_scan its_copy (nat_le its_copy.left 1) true (rest_copy its_copy (nat_lt 1 its_copy.left)) =
        copying s t its_scan its_copy (is_chosen s r h) h.was h.copy ∙ ap (λ (b : Bool). stepped s t its_scan its_copy (nat_le its_copy.left 1) b (rest_copy its_copy (nat_lt 1 its_copy.left))) h.sync in
        subst Goal (sym same) (by_left (nat_lt 1 its_copy.left) refl (subst Follow same follow))

  -- a stage out of the copy
  out_stage : (s : State) (e : Event) (es : List Event) → IsReached p s → syncs (progress_of s t).scan ≡ false → (InPhase (step s e).state → Found (stages_from (step s e).state es)) → Found (stage s (step s e).answer (step s e).state ∷ stages_from (step s e).state es)
  out_stage s e es r out follow =
      let x = happens p s e t (known_at p s r) within in
      let y = stage s (step s e).answer (step s e).state in
      let ends : is_task t (sync_end (step s e).answer) ≡ false = x.ends ∙ none_ends s e x.change x.makes out in
      by_start (is_task t (sync_start (step s e).answer)) refl ends x
    where
      y : Stage
      y = stage s (step s e).answer (step s e).state

      by_start : (b : Bool) → is_task t (sync_start (step s e).answer) ≡ b → is_task t (sync_end (step s e).answer) ≡ false → Happens p s e t → Found (y ∷ stages_from (step s e).state es)
      by_start true is ends x = found y (stages_from (step s e).state es) (or_left (is_task t (sync_start (step s e).answer)) (is_task t (sync_end (step s e).answer)) is) (no_end (is_task t (sync_end (step s e).answer)) (is_apart c) (is_copied c begun.after (step s e).state) ends)
      by_start false is ends x =
          passed y (stages_from (step s e).state es) (or_from (is_task t (sync_start (step s e).answer)) (is_task t (sync_end (step s e).answer)) is ends)
          (follow (inr (ap syncs (ap (λ (v : TaskView). v.scan) x.view) ∙ out_next s e x.change x.makes out (sym x.starts ∙ is))))

  -- a stage in the copy
  in_stage : (s : State) (e : Event) (es : List Event) → IsReached p s → InCopy s t c first → (InPhase (step s e).state → Found (stages_from (step s e).state es)) → Found (stage s (step s e).answer (step s e).state ∷ stages_from (step s e).state es)
  in_stage s events.Cpu es r h follow = at_step s es r h follow
  in_stage s events.Tick es r h follow =
      passed (stage s (step s events.Tick).answer (step s events.Tick).state) (stages_from (step s events.Tick).state es) refl (follow (kept_phase s events.Tick (λ e. (let f : events.Tick ≡ events.Cpu → ⊥ = λ x. cc in f e)) r h (tick_image s)))
  in_stage s (events.Act lane a) es r h follow =
      passed (stage s (step s (events.Act lane a)).answer (step s (events.Act lane a)).state) (stages_from (step s (events.Act lane a)).state es) refl
      (follow (kept_phase s (events.Act lane a) (λ e. (let f : events.Act lane a ≡ events.Cpu → ⊥ = λ x. cc in f e)) r h (act_image s lane a (any_held s.table.states t (open_flag s r h)))))

  by_phase : (s : State) (e : Event) (es : List Event) → IsReached p s → InPhase s → (InPhase (step s e).state → Found (stages_from (step s e).state es)) → Found (stage s (step s e).answer (step s e).state ∷ stages_from (step s e).state es)
  by_phase s e es r (inl h) follow = in_stage s e es r h follow
  by_phase s e es r (inr out) follow = out_stage s e es r out follow

  pub walk : (s : State) (es : List Event) → IsReached p s → InPhase s → Found (stages_from s es)
  walk s [] r h = refl
  walk s (e ∷ es) r h = by_phase s e es r h (λ k. walk (step s e).state es (reached_next p s e r) k)

-- ---- the start of a copy

start_is_step : (m : Moment) (k : Mark) (u : ℕ) → sync_start (OfStep (record m { mark = k })) ≡ Some u → task_of m.what ≡ Some u
start_is_step m marks.Plain u h = absurd (cc h)
start_is_step m marks.Up u h = absurd (cc h)
start_is_step m marks.Down u h = absurd (cc h)
start_is_step m (marks.Trigger t) u h = absurd (cc h)
start_is_step m (marks.CopyStart true) u h = h
start_is_step m (marks.CopyStart false) u h = absurd (cc h)
start_is_step m (marks.CopyEnd sync) u h = absurd (cc h)

-- the scan with the copy that was started
pub record Started (s : State) (u : ℕ) (x : Change) : Type 0 where
  pub scan : Scan
  pub is : (changed x (view_of s u)).scan ≡ Some scan
  pub syncing : is_syncing scan.position.copy ≡ true

started : (s : State) (e : Event) (u : ℕ) (x : Change) → Makes s e u x → starts_copy x ≡ true → Started s u x
started s e u Stays m h = absurd (false≢true h)
started s e u (Rotates n) m h = absurd (false≢true h)
started s e u GoesDown m h = absurd (false≢true h)
started s e u (ComesUp now rank) m h = absurd (false≢true h)
started s e u (Restarts now rank) m h = absurd (false≢true h)
started s e u (Begins scan) m h = absurd (false≢true h)
started s e u (Goes mark.Plain scan) m h = absurd (false≢true h)
started s e u (Goes mark.Up scan) m h = absurd (false≢true h)
started s e u (Goes mark.Down scan) m h = absurd (false≢true h)
started s e u (Goes (mark.Trigger t) scan) m h = absurd (false≢true h)
started s e u (Goes mark.Copy scan) m h = absurd (false≢true h)
started s e u (Goes mark.Sync scan) m h = record { scan = scan; is = refl; syncing = m.1.copy.1 }
started s e u (Goes mark.CopyEnd scan) m h = absurd (false≢true h)
started s e u (Goes mark.SyncEnd scan) m h = absurd (false≢true h)
started s e u Ends m h = absurd (false≢true h)

sync_copy : (o : Option Copying) → is_syncing o ≡ true → (c : Copying) × (o ≡ Some c) × (c.sync ≡ true)
sync_copy None h = absurd (false≢true h)
sync_copy (Some c) h = (c, refl, h)

module _ (p : Project) (valid : IsValidProject p) (s : State) (es : List Event) (r : IsReached p s) where
  abbrev here : Stage
  here = record { before = s; entry = (step s events.Cpu).answer; after = (step s events.Cpu).state }

  abbrev later : List Stage
  later = stages_from (step s events.Cpu).state es

  next : IsReached p (step s events.Cpu).state
  next = reached_next p s events.Cpu r

  -- without apart ranges nothing is said
  unless_apart : (u : ℕ) (c : Copying) (o : Option Stage) → is_apart c ≡ false → ends_whole u here (Some c) o ≡ true
  unless_apart u c None e = refl
  unless_apart u c (Some y) e = or_left (not (is_task u (sync_end y.entry) && is_apart c)) (is_copied c here.after y.after) (not_from_false (is_task u (sync_end y.entry) && is_apart c) (and_right (is_task u (sync_end y.entry)) (is_apart c) e))

  from_start : (u : ℕ) → u < length p.tasks → (scan : Scan) (c : Copying) → (progress_of (step s events.Cpu).state u).scan ≡ Some scan → scan.position.copy ≡ Some c → c.sync ≡ true → ends_whole u here (Some c) (find (starts_or_ends u) later) ≡ true
  from_start u within scan c was copy sync = go (is_apart c) refl
    where
      lies : IsCopyIn (length p.image) c
      lies = subst (CopiesIn (length p.image)) copy (stands_at p valid (step s events.Cpu).state u scan next was).copy

      plain : c.fill ≡ None
      plain = lies.plain sync

      source : c.source + c.left * c.size ≤ length p.image
      source = subst (λ (fill : Option ℤ). SourceInBounds fill c (length p.image)) plain lies.lies.source

      go : (b : Bool) → is_apart c ≡ b → ends_whole u here (Some c) (find (starts_or_ends u) later) ≡ true
      go false e = unless_apart u c (find (starts_or_ends u) later) e
      go true e =
          let long = image_at p valid (step s events.Cpu).state next in
          let target = lies.lies.target in
          let from = source in
          let apart : AreApart c (length here.after.image) = record { apart = apart_of c e; source = omega arith; target = omega arith } in
          walk p valid u within c here apart (step s events.Cpu).state es next
          (inl (record {
            scan = scan;
            was = was;
            now = c;
            copy = copy;
            sync = sync;
            elements = 0;
            at = record { source = omega arith; target = omega arith; size = refl; left = omega arith; plain = plain };
            bytes = begins_copied c here.after.image;
          }))

  by_start : (o : Option ℕ) → sync_start here.entry ≡ o → elim o [ None ↦ true | Some u ↦ ends_whole u here (copy_in here.after u) (find (starts_or_ends u) later) ] ≡ true
  by_start None e = refl
  by_start (Some u) e =
      let m = (processor_step s).answer in
      let up = value_of_some (state_of s.table u) (step_of_up_task s u (start_is_step m m.mark u e)) in
      let known = known_at p s r in
      let within : u < length p.tasks = (let a = within_states s.table.states u up.0 up.1 in let b = known.sizes.states in omega arith) in
      let x = happens p s events.Cpu u known within in
      let tells : is_task u (sync_start here.entry) ≡ true = ap (is_task u) e ∙ eq-eqb u u refl in
      let k = started s events.Cpu u x.change x.makes (sym x.starts ∙ tells) in
      let was : (progress_of here.after u).scan ≡ Some k.scan = ap (λ (v : TaskView). v.scan) x.view ∙ k.is in
      let c = sync_copy k.scan.position.copy k.syncing in
      let is : copy_in here.after u ≡ Some c.0 = ap (λ (o : Option Scan). elim o [ None ↦ None | Some scan ↦ scan.position.copy ]) was ∙ c.1 in
      subst (λ (o : Option Copying). ends_whole u here o (find (starts_or_ends u) later) ≡ true) (sym is) (from_start u within k.scan c.0 was c.1 c.2)

-- ---- along a run

kept_here : (p : Project) (valid : IsValidProject p) (s : State) (e : Event) (es : List Event) → IsReached p s → keeps_copy (record { before = s; entry = (step s e).answer; after = (step s e).state }) (stages_from (step s e).state es) ≡ true
kept_here p valid s events.Cpu es r = by_start p valid s es r (sync_start (step s events.Cpu).answer) refl
kept_here p valid s events.Tick es r = refl
kept_here p valid s (events.Act lane a) es r = refl

along : (p : Project) (valid : IsValidProject p) (s : State) (es : List Event) → IsReached p s → each_from keeps_copy (stages_from s es) ≡ true
along p valid s [] r = refl
along p valid s (e ∷ es) r =
    and_from (keeps_copy (record { before = s; entry = (step s e).answer; after = (step s e).state }) (stages_from (step s e).state es)) (each_from keeps_copy (stages_from (step s e).state es))
    (kept_here p valid s e es r) (along p valid (step s e).state es (reached_next p s e r))

pub runs_copy_whole : RunsCopyWhole
runs_copy_whole p valid journal = along p valid (start p) journal (reached_start p)
