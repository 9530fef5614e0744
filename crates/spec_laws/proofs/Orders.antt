-- The law of order.
use Rattle.std.proofs.Common.{◌≡◌, ℕ, inl, inr, Bool, true, false, List, [], ◌∷◌, ◌++◌, length, Option, Some, None, refl, sym, ◌∙◌, ap, subst, arith}
use Rattle.std.specs.Prelude.{not, ◌&&◌, nat_eq, if◌then◌else◌, is_none, filter_map, option_to_list, slice_set, slice_index_or}
use Rattle.std.specs.List.{cons_option, list_all}
use Rattle.std.proofs.lemmas.Bool.{eq-eqb, eqb-true, ne_eqb, cases_lt, cases_eq, and_parts, not-true}
use Rattle.std.proofs.lemmas.List.{append-nil, append_assoc}
use Rattle.std.proofs.lemmas.Option.{same_Some}
use Rattle.lgx_num.specs.declared.place.Flags.{Flags}
use Rattle.lgx_rung.specs.declared.ins.Ins.{Ins}
use Rattle.spec_tables.specs.Tasks.{chosen}
use Rattle.spec_scan.specs.declared.bound.Effect.{Effect}
use Rattle.spec_scan.specs.declared.bound.Effect.TheVariants as effect
use Rattle.spec_scan.specs.Position.{ProgramRungs, Position, routine_rungs, enter}
use Rattle.spec_scan.specs.Scan.{advance}
use Rattle.spec_machine.specs.declared.answer.Moment.{Moment}
use Rattle.spec_machine.specs.declared.event.Event.{Event}
use Rattle.spec_machine.specs.declared.event.Event.TheVariants as events
use Rattle.spec_machine.specs.Edits.{book_at, selected}
use Rattle.spec_machine.specs.Machine.{OfStep, step}
use Rattle.spec_machine.specs.ProcessorStep.{with_progress, new_scan, next_program, after_effect, scan_step, task_step}
use Rattle.spec_machine.specs.Project.{Project}
use Rattle.spec_machine.specs.State.{State, Scan, Progress, no_progress, progress_of, start, Answered}
use Rattle.spec_schedule.specs.Stages.{Stage, stages_from, stages}
use Rattle.spec_reach.proofs.Changes.{TaskView, view_of, Change, Stays, Rotates, GoesDown, ComesUp, Restarts, Begins, Goes, Ends, changed, IsStepOf, Makes}
use Rattle.spec_reach.proofs.Reached.{IsReached, reached_start, reached_next, happens, known_at, past_view}
use Rattle.spec_reach.proofs.Sizes.{event_keeps_sizes}
use Rattle.spec_uses.specs.Changes.{first_of, next_of}
use Rattle.spec_laws.specs.Marks.{condition_in, condition_at}
use Rattle.spec_laws.specs.Orders.{begun_at, ends_at, executed_at, is_aside, goes_aside, main_instructions, RunsInOrder, ScansRunInOrder}
use Rattle.spec_laws.proofs.AlongStages.{stage}
use Rattle.spec_laws.proofs.Cursors.{next_comes}
use Rattle.spec_laws.proofs.Marks.{next_in, on_in}
use Rattle.spec_laws.proofs.InOrder.{set_own, IfGoesOn, after_scan, IsAt, ScanIsAt, done_by, ArrivesBy, EndsBy, by_copy, copy_ends}

-- ---- what is told of a step

abbrev told : State → Answered Moment → Stage
told s x = record { before = s; entry = OfStep x.answer; after = x.state }

-- a program is begun by a task if the step is of it
abbrev begun_if : Bool → ℕ → Option ℕ
begun_if b n = if b then Some n else None

-- an instruction is a task's if the step is of it
abbrev ran_by : Bool → Option Ins → Option Ins
ran_by b o = elim b [ true ↦ o | false ↦ None ]

module _ (s y : State) (t n : ℕ) (q : Progress) where
  abbrev after : Effect → Stage
  after e = told s (after_effect y t q n e)

  same_task : (o : Option Ins) → ran_by (nat_eq t t) o ≡ o
  same_task o = ap (λ (b : Bool). ran_by b o) (eq-eqb t t refl)

  executes : (e : Effect) → executed_at t (after e) ≡ done_by e (next_of s t)
  executes effect.Ran = same_task (next_of s t)
  executes effect.Up = same_task (next_of s t)
  executes effect.Down = same_task (next_of s t)
  executes (effect.Trigger other) = same_task (next_of s t)
  executes (effect.CopyStart sync) = same_task (next_of s t)
  executes (effect.Copied true sync) = refl
  executes (effect.Copied false sync) = refl
  executes (effect.Left true) = refl
  executes (effect.Left false) = refl
  executes effect.Minor = same_task (next_of s t)
  executes (effect.Major code) = same_task (next_of s t)

  begins_none : (u : ℕ) (e : Effect) → begun_at u (after e) ≡ None
  begins_none u effect.Ran = refl
  begins_none u effect.Up = refl
  begins_none u effect.Down = refl
  begins_none u (effect.Trigger other) = refl
  begins_none u (effect.CopyStart sync) = refl
  begins_none u (effect.Copied true sync) = refl
  begins_none u (effect.Copied false sync) = refl
  begins_none u (effect.Left true) = refl
  begins_none u (effect.Left false) = refl
  begins_none u effect.Minor = refl
  begins_none u (effect.Major code) = refl

  -- another task executes nothing and ends nothing
  module _ (u : ℕ) (other : nat_eq t u ≡ false) where
    not_task : (o : Option Ins) → ran_by (nat_eq t u) o ≡ None
    not_task o = ap (λ (b : Bool). ran_by b o) other

    other_executes : (e : Effect) → executed_at u (after e) ≡ None
    other_executes effect.Ran = not_task (next_of s u)
    other_executes effect.Up = not_task (next_of s u)
    other_executes effect.Down = not_task (next_of s u)
    other_executes (effect.Trigger k) = not_task (next_of s u)
    other_executes (effect.CopyStart sync) = not_task (next_of s u)
    other_executes (effect.Copied true sync) = refl
    other_executes (effect.Copied false sync) = refl
    other_executes (effect.Left true) = refl
    other_executes (effect.Left false) = refl
    other_executes effect.Minor = not_task (next_of s u)
    other_executes (effect.Major code) = not_task (next_of s u)

    other_ends : (e : Effect) → ends_at u (after e) ≡ false
    other_ends effect.Ran = refl
    other_ends effect.Up = refl
    other_ends effect.Down = refl
    other_ends (effect.Trigger k) = refl
    other_ends (effect.CopyStart sync) = refl
    other_ends (effect.Copied true sync) = refl
    other_ends (effect.Copied false sync) = refl
    other_ends (effect.Left true) = ap (λ (b : Bool). b && true) other
    other_ends (effect.Left false) = ap (λ (b : Bool). b && false) other
    other_ends effect.Minor = refl
    other_ends (effect.Major code) = refl

  -- a step that ends the scan leaves its last frame
  module _ (program : ProgramRungs) (position : Position) (image : List ℕ) (now : ℕ) (first : Bool) (flags : Flags) (all done : List Ins) where
    own_ends : (e : Effect) → ends_at t (after e) ≡ true → EndsBy program position image now first flags all done e → done ≡ all
    own_ends effect.Ran h k = absurd (cc h)
    own_ends effect.Up h k = absurd (cc h)
    own_ends effect.Down h k = absurd (cc h)
    own_ends (effect.Trigger other) h k = absurd (cc h)
    own_ends (effect.CopyStart sync) h k = absurd (cc h)
    own_ends (effect.Copied true sync) h k = absurd (cc h)
    own_ends (effect.Copied false sync) h k = absurd (cc h)
    own_ends (effect.Left true) h k = k
    own_ends (effect.Left false) h k = (let f = and_parts (nat_eq t t) false h in absurd (cc (f.1)))
    own_ends effect.Minor h k = absurd (cc h)
    own_ends (effect.Major code) h k = absurd (cc h)

    -- the scan after it is where the step arrives
    goes_on : (o : Option Ins) (e : Effect) (after : Position) (scan : Option Scan) → ArrivesBy program position image now first flags all done o e after → (IsAt all (done ++ option_to_list o) after → ScanIsAt all (done ++ option_to_list o) scan) → IfGoesOn (ScanIsAt all (done ++ option_to_list o)) tt e scan
    goes_on o effect.Ran after scan h k = k h
    goes_on o effect.Up after scan h k = k h
    goes_on o effect.Down after scan h k = k h
    goes_on o (effect.Trigger other) after scan h k = k h
    goes_on o (effect.CopyStart sync) after scan h k = k h
    goes_on o (effect.Copied true sync) after scan h k = k h
    goes_on o (effect.Copied false sync) after scan h k = k h
    goes_on o (effect.Left true) after scan h k = tt
    goes_on o (effect.Left false) after scan h k = k h
    goes_on o effect.Minor after scan h k = k h
    goes_on o (effect.Major code) after scan h k = tt

-- ---- an event that is no step of the task

module _ (P : Option Scan → Type 0) (none : P None) (p : Project) (s : State) (e : Event) (t : ℕ) (r : IsReached p s) (no : IsStepOf s e t → ⊥) (h : P (progress_of s t).scan) where
  by_change : (c : Change) → Makes s e t c → P (changed c (view_of s t)).scan
  by_change Stays m = h
  by_change (Rotates n) m = h
  by_change GoesDown m = none
  by_change (ComesUp now rank) m = none
  by_change (Restarts now rank) m = none
  by_change (Begins scan) m = absurd (no m.0)
  by_change (Goes mark scan) m = absurd (no m.0)
  by_change Ends m = none

  others_keep : P (progress_of (step s e).state t).scan
  others_keep =
      let known = known_at p s r in
      let sizes = event_keeps_sizes p s e known.sizes in
      elim (cases_lt t (length p.tasks)) [
        | inl l ↦ (let y = happens p s e t known l in subst P (sym (ap (λ (v : TaskView). v.scan) y.view)) (by_change y.change y.makes))
        | inr g ↦ subst P (sym (ap (λ (v : TaskView). v.scan) (past_view (step s e).state t (let a = sizes.states in omega arith) (let a = sizes.progresses in omega arith)))) none
      ]

-- ---- a step

module _ (p : Project) (s : State) (t : ℕ) (r : IsReached p s) (all done : List Ins) where
  abbrev Here : List Ins → Option Scan → Type 0
  Here xs o = ScanIsAt all xs o

  -- what was executed is behind
  abbrev KeepsAt : Answered Moment → Type 0
  KeepsAt y = begun_at t (told s y) ≡ None → goes_aside t (told s y) ≡ false → Here (done ++ option_to_list (executed_at t (told s y))) (progress_of y.state t).scan

  -- where nothing is executed
  nothing : (o : Option Ins) (scan : Option Scan) → o ≡ None → Here done scan → Here (done ++ option_to_list o) scan
  nothing o scan e h = subst (λ (x : Option Ins). Here (done ++ option_to_list x) scan) (sym e) (subst (λ (xs : List Ins). Here xs scan) (sym (append-nil done)) h)

  aside_of : (x y : Option Ins) (a b : Bool) → x ≡ y → a ≡ b → is_aside x a ≡ false → is_aside y b ≡ false
  aside_of x y a b e f h = sym (ap (λ (o : Option Ins). is_aside o a) e ∙ ap (is_aside y) f) ∙ h

  own_scan : (scan : Scan) → (progress_of s t).scan ≡ Some scan → Here done (progress_of s t).scan → KeepsAt (scan_step s t (progress_of s t) (Some scan))
  own_scan scan was h begins straight =
      let q = progress_of s t in
      let a = advance scan.rungs scan.position s.image s.tick scan.first q.flags in
      let q' : Progress = record { ended = q.ended; scan = Some (record scan { position = a.position }); flags = a.flags } in
      let y = record (with_progress t q' s) { image = a.image } in
      let next : next_of s t ≡ first_of scan.position.frames = ap next_in was in
      let on : condition_at s t ≡ condition_in scan.position.frames = ap on_in was in
      let x = executes s y t scan.program q' a.effect ∙ ap (done_by a.effect) next in
      let at : IsAt all done scan.position = subst (Here done) was h in
      let o = done_by a.effect (first_of scan.position.frames) in
      let arrives = by_copy scan.rungs scan.position s.image s.tick scan.first q.flags all done scan.position.copy at (aside_of _ o _ (condition_in scan.position.frames) x on straight) in
      let goes = goes_on s y t scan.program q' scan.rungs scan.position s.image s.tick scan.first q.flags all done o a.effect a.position (progress_of y t).scan arrives (λ k. set_own (Here (done ++ option_to_list o)) tt s.progress t q' k) in
      subst (λ (i : Option Ins). Here (done ++ option_to_list i) (progress_of (after_effect y t q' scan.program a.effect).state t).scan) (sym x)
      (after_scan (Here (done ++ option_to_list o)) tt y t q' scan.program a.effect goes)

  own_begin : (n : ℕ) → begun_if (nat_eq t t) n ≡ None → ⊥
  own_begin n h = let e = ap (λ (b : Bool). begun_if b n) (sym (eq-eqb t t refl)) ∙ h in cc e

  by_own : (o : Option Scan) → (progress_of s t).scan ≡ o → Here done (progress_of s t).scan → KeepsAt (scan_step s t (progress_of s t) o)
  by_own (Some scan) was h begins straight = own_scan scan was h begins straight
  by_own None was h begins straight = absurd (own_begin (next_program s t (progress_of s t)) begins)

  by_other : (u : ℕ) → (u ≡ t → ⊥) → (o : Option Scan) → executed_at t (told s (scan_step s u (progress_of s u) o)) ≡ None
  by_other u other None = refl
  by_other u other (Some scan) =
      let q = progress_of s u in
      let a = advance scan.rungs scan.position s.image s.tick scan.first q.flags in
      let q' : Progress = record { ended = q.ended; scan = Some (record scan { position = a.position }); flags = a.flags } in
      other_executes s (record (with_progress u q' s) { image = a.image }) u scan.program q' t (ne_eqb u t other) a.effect

  by_task : (o : Option ℕ) → chosen s.table ≡ o → Here done (progress_of s t).scan → KeepsAt (task_step s o)
  by_task None is h begins straight = nothing None (progress_of s t).scan refl h
  by_task (Some u) is h begins straight =
      elim (cases_eq u t) [
        | inl same ↦ subst (λ (k : ℕ). KeepsAt (task_step s (Some k))) (sym same) (by_own (progress_of s t).scan refl h) begins straight
        | inr other ↦
            (let keeps = others_keep (Here done) tt p s events.Cpu t r (λ k. other (same_Some u t (sym is ∙ k.chosen))) h in
            nothing (executed_at t (told s (task_step s (Some u)))) (progress_of (task_step s (Some u)).state t).scan (by_other u other (progress_of s u).scan) (subst (λ (x : Option ℕ). Here done (progress_of (task_step s x).state t).scan) is keeps))
      ]

  pub step_keeps : (e : Event) → begun_at t (stage s e) ≡ None → goes_aside t (stage s e) ≡ false → Here done (progress_of s t).scan → Here (done ++ option_to_list (executed_at t (stage s e))) (progress_of (step s e).state t).scan
  step_keeps events.Cpu begins straight h = by_task (chosen s.table) refl h begins straight
  step_keeps events.Tick begins straight h = nothing None _ refl (others_keep (Here done) tt p s events.Tick t r (λ k. absurd (cc (k.step))) h)
  step_keeps (events.Act lane a) begins straight h = nothing None _ refl (others_keep (Here done) tt p s (events.Act lane a) t r (λ k. absurd (cc (k.step))) h)

  -- ---- its end

  scan_ends : (u : ℕ) (o : Option Scan) → (progress_of s u).scan ≡ o → ends_at t (told s (scan_step s u (progress_of s u) o)) ≡ true → Here done (progress_of s t).scan → done ≡ all
  scan_ends u None was ends h = absurd (cc ends)
  scan_ends u (Some scan) was ends h =
      let q = progress_of s u in
      let a = advance scan.rungs scan.position s.image s.tick scan.first q.flags in
      let q' : Progress = record { ended = q.ended; scan = Some (record scan { position = a.position }); flags = a.flags } in
      let y = record (with_progress u q' s) { image = a.image } in
      elim (cases_eq u t) [
        | inl same ↦
            (let at : IsAt all done scan.position = subst (Here done) was (subst (λ (k : ℕ). Here done (progress_of s k).scan) (sym same) h) in
            own_ends s y u scan.program q' scan.rungs scan.position s.image s.tick scan.first q.flags all done a.effect (subst (λ (k : ℕ). ends_at k (told s (after_effect y u q' scan.program a.effect)) ≡ true) (sym same) ends) (copy_ends scan.rungs scan.position s.image s.tick scan.first q.flags all done scan.position.copy at))
        | inr other ↦ (let f = sym (other_ends s y u scan.program q' t (ne_eqb u t other) a.effect) ∙ ends in absurd (cc f))
      ]

  task_ends : (o : Option ℕ) → ends_at t (told s (task_step s o)) ≡ true → Here done (progress_of s t).scan → done ≡ all
  task_ends None ends h = absurd (cc ends)
  task_ends (Some u) ends h = scan_ends u (progress_of s u).scan refl ends h

  pub event_ends : (e : Event) → ends_at t (stage s e) ≡ true → Here done (progress_of s t).scan → done ≡ all
  event_ends events.Cpu ends h = task_ends (chosen s.table) ends h
  event_ends events.Tick ends h = absurd (cc ends)
  event_ends (events.Act lane a) ends h = absurd (cc ends)

-- ---- a begin

module _ (s : State) (t n : ℕ) where
  abbrev first_of_main : List Ins
  first_of_main = main_instructions (selected (book_at s.books n))

  abbrev Begun : Option Scan → Type 0
  Begun o = ScanIsAt first_of_main [] o

  -- a new scan stands before all
  begun_scan : Begun (Some (new_scan s n))
  begun_scan =
      let rungs = selected (book_at s.books n) in
      record { frame = enter rungs rungs.main [] []; one_frame = refl; coming = first_of_main; comes = next_comes true (routine_rungs rungs rungs.main) true; parts = refl }

  begin_of : (u m : ℕ) (q : Progress) (b : Bool) → nat_eq u t ≡ b → begun_if b m ≡ Some n → Begun (slice_index_or (slice_set s.progress u (record q { scan = Some (new_scan s m) })) t no_progress).scan
  begin_of u m q false e is = absurd (cc is)
  begin_of u m q true e is =
      let same = eqb-true u t e in
      let here = set_own Begun tt s.progress t (record q { scan = Some (new_scan s m) }) (subst (λ (k : ℕ). Begun (Some (new_scan s k))) (sym (same_Some m n is)) begun_scan) in
      subst (λ (k : ℕ). Begun (slice_index_or (slice_set s.progress k (record q { scan = Some (new_scan s m) })) t no_progress).scan) (sym same) here

  scan_begins : (u : ℕ) (o : Option Scan) → begun_at t (told s (scan_step s u (progress_of s u) o)) ≡ Some n → Begun (progress_of (scan_step s u (progress_of s u) o).state t).scan
  scan_begins u None is = begin_of u (next_program s u (progress_of s u)) (progress_of s u) (nat_eq u t) refl is
  scan_begins u (Some scan) is =
      let q = progress_of s u in
      let a = advance scan.rungs scan.position s.image s.tick scan.first q.flags in
      let q' : Progress = record { ended = q.ended; scan = Some (record scan { position = a.position }); flags = a.flags } in
      let f = sym (begins_none s (record (with_progress u q' s) { image = a.image }) u scan.program q' t a.effect) ∙ is in
      absurd (cc f)

  task_begins : (o : Option ℕ) → begun_at t (told s (task_step s o)) ≡ Some n → Begun (progress_of (task_step s o).state t).scan
  task_begins None is = absurd (cc is)
  task_begins (Some u) is = scan_begins u (progress_of s u).scan is

  event_begins : (e : Event) → begun_at t (stage s e) ≡ Some n → Begun (progress_of (step s e).state t).scan
  event_begins events.Cpu is = task_begins (chosen s.table) is
  event_begins events.Tick is = absurd (cc is)
  event_begins (events.Act lane a) is = absurd (cc is)

-- ---- along stages

-- the first of a list of stages, and the others
record First (s : State) (es : List Event) (x : Stage) (xs : List Stage) : Type 0 where
  event : Event
  events : List Event
  is : stage s event ≡ x
  others : stages_from (step s event).state events ≡ xs

first_stage : (s : State) (es : List Event) (x : Stage) (xs : List Stage) → stages_from s es ≡ x ∷ xs → First s es x xs
first_stage s [] x xs h = absurd (cc h)
first_stage s (e ∷ es) x xs h = record { event = e; events = es; is = cc h; others = cc h }

module _ (p : Project) (t : ℕ) where
  -- the state before the rest of a run's stages
  record Rest (xs : List Stage) : Type 0 where
    state : State
    events : List Event
    reached : IsReached p state
    are : stages_from state events ≡ xs

  after_first : (before : List Stage) (xs : List Stage) (s : State) (es : List Event) → IsReached p s → stages_from s es ≡ before ++ xs → Rest xs
  after_first [] xs s es r h = record { state = s; events = es; reached = r; are = h }
  after_first (x ∷ before) xs s es r h =
      let f = first_stage s es x (before ++ xs) h in after_first before xs (step s f.event).state f.events (reached_next p s f.event r) f.others

  abbrev begins_not : Stage → Bool
  begins_not x = is_none (begun_at t x)

  none_begun : (o : Option ℕ) → is_none o ≡ true → o ≡ None
  none_begun None h = refl
  none_begun (Some n) h = absurd (cc h)

  more_done : (o : Option Ins) (done xs : List Ins) → (done ++ option_to_list o) ++ xs ≡ done ++ cons_option o xs
  more_done None done xs = ap (λ (ys : List Ins). ys ++ xs) (append-nil done)
  more_done (Some i) done xs = append_assoc done (i ∷ []) xs

  through : (all done : List Ins) (during : List Stage) (x : Stage) (after : List Stage) (s : State) (es : List Event) → IsReached p s → stages_from s es ≡ during ++ x ∷ after → list_all begins_not during ≡ true → list_all (λ y. not (goes_aside t y)) during ≡ true → ends_at t x ≡ true → ScanIsAt all done (progress_of s t).scan → done ++ filter_map (executed_at t) during ≡ all
  through all done [] x after s es r are begins straight ends h =
      let f = first_stage s es x after are in
      append-nil done ∙ event_ends p s t r all done f.event (ap (ends_at t) f.is ∙ ends) h
  through all done (y ∷ during) x after s es r are begins straight ends h =
      let f = first_stage s es y (during ++ x ∷ after) are in
      let b = and_parts (begins_not y) (list_all begins_not during) begins in
      let g = and_parts (not (goes_aside t y)) (list_all (λ z. not (goes_aside t z)) during) straight in
      let no_begin : begun_at t (stage s f.event) ≡ None = ap (begun_at t) f.is ∙ none_begun (begun_at t y) b.0 in
      let goes : goes_aside t (stage s f.event) ≡ false = ap (goes_aside t) f.is ∙ not-true (goes_aside t y) g.0 in
      let here = subst (λ (z : Stage). ScanIsAt all (done ++ option_to_list (executed_at t z)) (progress_of (step s f.event).state t).scan) f.is (step_keeps p s t r all done f.event no_begin goes h) in
      sym (more_done (executed_at t y) done (filter_map (executed_at t) during))
      ∙ through all (done ++ option_to_list (executed_at t y)) during x after (step s f.event).state f.events (reached_next p s f.event r) f.others b.1 g.1 ends here

  straight_scans : (xs : List Stage) (s : State) (es : List Event) → IsReached p s → stages_from s es ≡ xs → RunsInOrder t xs
  straight_scans xs s es r is scan =
      let rest = after_first scan.before (scan.begin ∷ (scan.during ++ scan.end ∷ scan.after)) s es r (is ∙ scan.places) in
      let f = first_stage rest.state rest.events scan.begin (scan.during ++ scan.end ∷ scan.after) rest.are in
      let here = event_begins rest.state t scan.program f.event (ap (begun_at t) f.is ∙ scan.begins) in
      let all = main_instructions (selected (book_at rest.state.books scan.program)) in
      through all [] scan.during scan.end scan.after (step rest.state f.event).state f.events (reached_next p rest.state f.event rest.reached) f.others scan.one_begin scan.straight scan.ends here
      ∙ ap (λ (x : Stage). main_instructions (selected (book_at x.before.books scan.program))) f.is

pub scans_run_in_order : (p : Project) → ScansRunInOrder p
scans_run_in_order p journal t = straight_scans p t (stages p journal) (start p) journal (reached_start p) refl
