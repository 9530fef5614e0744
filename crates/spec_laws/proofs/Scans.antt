-- The law of scans.
use Rattle.std.proofs.Common.{◌≡◌, ℕ, ◌+◌, ◌<◌, inl, inr, Bool, true, false, cond, List, [], ◌∷◌, length, map, Option, Some, None, refl, sym, ◌∙◌, ap, subst, arith}
use Rattle.std.specs.Prelude.{◌&&◌, if◌then◌else◌, is_none, is_some, nat_eq, nat_lt, replicate, slice_index, slice_index_or, slice_set}
use Rattle.std.proofs.lemmas.Bool.{and_from, cases_eq, cond_both, eq-eqb, ne_eqb}
use Rattle.std.proofs.lemmas.Option.{same_Some}
use Rattle.spec_tables.specs.Tasks.{TaskState, task, state_of, chosen, has_open_cps, is_continuous, release_answer, release_some}
use Rattle.spec_tables.proofs.StateLists.{chosen_up}
use Rattle.spec_scan.specs.declared.bound.Effect.{Effect}
use Rattle.spec_scan.specs.declared.bound.Effect.TheVariants as effect
use Rattle.spec_scan.specs.Scan.{Advanced, advance}
use Rattle.spec_machine.specs.declared.answer.Moment.{Moment}
use Rattle.spec_machine.specs.declared.event.Event.{Event}
use Rattle.spec_machine.specs.declared.event.Event.TheVariants.{Cpu, Tick, Act}
use Rattle.spec_machine.specs.Machine.{after_step, step}
use Rattle.spec_machine.specs.declared.answer.What.TheVariants as what
use Rattle.spec_machine.specs.ProcessorStep.{plainly, with_progress, with_table, new_scan, next_program, after_effect, scan_step, task_step}
use Rattle.spec_machine.specs.Project.{Project}
use Rattle.spec_machine.specs.State.{State, Scan, Progress, progress_of, programs_of, dropped, start, Answered}
use Rattle.spec_machine.specs.ValidProject.{IsValidProject}
use Rattle.spec_schedule.specs.declared.trace.AuditTask.{AuditTask}
use Rattle.spec_schedule.specs.declared.trace.TraceMark.{TraceMark}
use Rattle.spec_schedule.specs.declared.trace.TraceMark.TheVariants.{Plain, Up, Down, Trigger, Copy, Sync, CopyEnd, SyncEnd}
use Rattle.spec_schedule.specs.declared.trace.TraceEvent.{TraceEvent}
use Rattle.spec_schedule.specs.declared.trace.TraceEvent.TheVariants as event
use Rattle.spec_schedule.specs.Counting.{Counted, uncounted, counted, counted_all, Numbers, unedited, edited_all, CountedEvent, is_task, stepping}
use Rattle.spec_schedule.specs.TraceView.{audit_tasks, seen}
use Rattle.spec_reach.proofs.Advances.{EffectCopies, step_copies}
use Rattle.spec_reach.proofs.Changes.{TaskView, view_of, Change, Stays, Rotates, GoesDown, ComesUp, Restarts, Begins, Goes, Ends, changed, counts_after, IsStepOf, Makes, Known}
use Rattle.spec_reach.proofs.Programs.{lists}
use Rattle.spec_reach.proofs.Reached.{happens, known_at, start_view}
use Rattle.spec_reach.proofs.StepChanges.{Made, gone_on, moved, own_ran, own_up, own_down, own_start, own_last, own_copied, own_left, own_minor, own_major, own_trigger, own_next, own_finish}
use Rattle.spec_reach.proofs.Views.{own_progress, same_number, IsChosen, chosen_known}
use Rattle.spec_reach.specs.Scans.{is_syncing, syncs}
use Rattle.spec_legal.specs.LegalRuns.{counted_run}
use Rattle.spec_legal.proofs.Along.{places_from, place, counts_next}
use Rattle.spec_legal.proofs.CountedLists.{count_at}
use Rattle.spec_legal.proofs.Mirrors.{counted_next, same_task, table_length}
use Rattle.spec_schedule.specs.Legal.{no_task as no_audit}
use Rattle.spec_legal.proofs.Priority.{step_of_chosen, within_tasks, up_counted}
use Rattle.spec_laws.specs.CountedBack.{is_up_since, each_with_past}
use Rattle.spec_laws.specs.Scans.{scanned_after, scanned, keeps_scans}
use Rattle.spec_laws.proofs.Places.{mark_downs, Stands, stands_next, stands_first}

-- ---- an event, and the program of a scan

-- the program of a scan
abbrev program_in : Option Scan → Option ℕ
program_in None = None
program_in (Some scan) = Some scan.program

not_mine : (t : ℕ) (e : TraceEvent) (w : Option ℕ) → (stepping e ≡ Some t → ⊥) → scanned_after t e w ≡ w
not_mine t event.Idle w ne = refl
not_mine t (event.Began u g v) w ne = ap (λ b. cond b (Some g) w) (ne_eqb u t (λ e. ne (ap (λ (k : ℕ). Some k) e)))
not_mine t (event.Step u g m f) w ne = refl
not_mine t (event.Left u g true) w ne = ap (λ b. cond b None w) (ne_eqb u t (λ e. ne (ap (λ (k : ℕ). Some k) e)))
not_mine t (event.Left u g false) w ne = refl
not_mine t (event.Tick r o w') w ne = refl
not_mine t (event.Act lane verb g answer mask) w ne = refl

-- what is counted of a task's scan fits what happens to the task
abbrev Fits : ℕ → TraceEvent → Option ℕ → Change → Type 0
Fits t e w Stays = scanned_after t e w ≡ w
Fits t e w (Rotates n) = scanned_after t e w ≡ w
Fits t e w GoesDown = Unit {0}
Fits t e w (ComesUp now rank) = Unit {0}
Fits t e w (Restarts now rank) = Unit {0}
Fits t e w (Begins scan) = scanned_after t e w ≡ Some scan.program
Fits t e w (Goes m scan) = scanned_after t e w ≡ Some scan.program
Fits t e w Ends = scanned_after t e w ≡ None

-- what has to be known of the task for a change
abbrev Needs : State → ℕ → Change → Type 0
Needs s t (ComesUp now rank) = state_of s.table t ≡ None
Needs s t (Begins scan) = chosen s.table ≡ Some t
Needs s t (Goes m scan) = chosen s.table ≡ Some t
Needs s t Ends = chosen s.table ≡ Some t
Needs s t _ = Unit {0}

module _ (p : Project) (valid : IsValidProject p) where
  abbrev table : List AuditTask
  table = audit_tasks p.tasks p.schedule

  abbrev IsScanned : State → List Counted → List CountedEvent → Type 0
  IsScanned s cs past = (t : ℕ) → t < length p.tasks → scanned t cs past ≡ program_in (progress_of s t).scan

  module _ (s : State) (cs : List Counted) (ns : List Numbers) (past : List CountedEvent) (h : Stands p s cs past) (k : IsScanned s cs past) (t : ℕ) (within : t < length p.tasks) where
    abbrev was : Counted
    was = slice_index_or cs t uncounted

    abbrev before : Option ℕ
    before = program_in (progress_of s t).scan

    known : Known p s
    known = known_at p s h.place.reached

    -- ---- an event, by what it makes of the task

    module _ (e : TraceEvent) where
      abbrev here : CountedEvent
      here = record { tasks = cs; programs = ns; event = e }

      abbrev counts : List Counted
      counts = counted_all table e cs

      abbrev now : Counted
      now = slice_index_or counts t uncounted

      abbrev Told : Option Scan → Type 0
      Told o = scanned t counts (here ∷ past) ≡ program_in o

      from : (b : Bool) → is_up_since t counts here ≡ b → scanned t counts (here ∷ past) ≡ cond b (scanned_after t e before) None
      from b up = ap (λ c. cond c (scanned_after t e (scanned t cs past)) None) up ∙ ap (λ w. cond b (scanned_after t e w) None) (k t within)

      stays_up : was.up ≡ true → now.downs ≡ was.downs → is_up_since t counts here ≡ true
      stays_up up d = and_from was.up (nat_eq was.downs now.downs) up (eq-eqb was.downs now.downs (sym d))

      was_down : was.up ≡ false → is_up_since t counts here ≡ false
      was_down down = ap (λ b. b && nat_eq was.downs now.downs) down

      -- one that has gone down in the event isn't up since
      gone : (up : Bool) → was.up ≡ up → now.downs ≡ cond was.up (was.downs + 1) was.downs → is_up_since t counts here ≡ false
      gone false up d = was_down up
      gone true up d =
          let more : now.downs ≡ was.downs + 1 = d ∙ ap (λ b. cond b (was.downs + 1) was.downs) up in
          ap (λ b. b && nat_eq was.downs now.downs) up ∙ ne_eqb was.downs now.downs (λ q. absurd (omega arith))

      -- a task that was down has no scan, one that was up the one that is counted
      unchanged : (o : Option Scan) → o ≡ (progress_of s t).scan → now.downs ≡ was.downs → scanned_after t e before ≡ before → (up : Bool) → was.up ≡ up → Told o
      unchanged o same d fits true up = from true (stays_up up d) ∙ (fits ∙ ap program_in (sym same))
      unchanged o same d fits false up = from false (was_down up) ∙ ap program_in (sym (same ∙ none (state_of s.table t) refl))
        where
          none : (u : Option TaskState) → state_of s.table t ≡ u → (progress_of s t).scan ≡ None
          none None g = ((known.sound t).down g).0
          none (Some u) g = absurd (cc (sym up ∙ up_counted p valid s cs h.place t u g))

      up_if_chosen : chosen s.table ≡ Some t → was.up ≡ true
      up_if_chosen c = let u = chosen_up s.table t c in up_counted p valid s cs h.place t u.0 u.1

      by_change : (c : Change) → Needs s t c → Fits t e before c → now ≡ counts_after c was → Told (changed c (view_of s t)).scan
      by_change Stays m f q = unchanged (progress_of s t).scan refl (ap (λ (x : Counted). x.downs) q) f was.up refl
      by_change (Rotates n) m f q = unchanged (progress_of s t).scan refl (ap (λ (x : Counted). x.downs) q) f was.up refl
      by_change GoesDown m f q = from false (gone was.up refl (ap (λ (x : Counted). x.downs) q))
      by_change (ComesUp tick rank) m f q = from false (was_down ((h.place.mirrors.shows t within).up ∙ ap is_some m))
      by_change (Restarts tick rank) m f q = from false (gone was.up refl (ap (λ (x : Counted). x.downs) q))
      by_change (Begins scan) m f q = from true (stays_up (up_if_chosen m) (ap (λ (x : Counted). x.downs) q)) ∙ f
      by_change (Goes mark scan) m f q = from true (stays_up (up_if_chosen m) (ap (λ (x : Counted). x.downs) q ∙ mark_downs mark was)) ∙ f
      by_change Ends m f q = from true (stays_up (up_if_chosen m) (ap (λ (x : Counted). x.downs) q)) ∙ f

    -- ---- an event that is no step of the task

    module _ (e : Event) (none : IsStepOf s e t → ⊥) (ne : stepping (seen p (step s e).answer) ≡ Some t → ⊥) where
      abbrev seen_here : TraceEvent
      seen_here = seen p (step s e).answer

      other_needs : (c : Change) → Makes s e t c → Needs s t c
      other_needs Stays m = tt
      other_needs (Rotates n) m = tt
      other_needs GoesDown m = tt
      other_needs (ComesUp tick rank) m = m.0
      other_needs (Restarts tick rank) m = tt
      other_needs (Begins scan) m = m.0.chosen
      other_needs (Goes mark scan) m = m.0.chosen
      other_needs Ends m = m.0.chosen

      other_fits : (c : Change) → Makes s e t c → Fits t seen_here before c
      other_fits Stays m = not_mine t seen_here before ne
      other_fits (Rotates n) m = not_mine t seen_here before ne
      other_fits GoesDown m = tt
      other_fits (ComesUp tick rank) m = tt
      other_fits (Restarts tick rank) m = tt
      other_fits (Begins scan) m = absurd (none m.0)
      other_fits (Goes mark scan) m = absurd (none m.0)
      other_fits Ends m = absurd (none m.0)

      other_told : Told seen_here (progress_of (step s e).state t).scan
      other_told =
          let x = happens p s e t known within in
          by_change seen_here x.change (other_needs x.change x.makes) (other_fits x.change x.makes) (counted_next p valid s e cs t known h.place.mirrors within x)
          ∙ sym (ap (λ (v : TaskView). program_in v.scan) x.view)

    -- ---- a step of the task

    module _ (c : chosen s.table ≡ Some t) where
      abbrev q : Progress
      q = progress_of s t

      abbrev Steps : Answered Moment → Type 0
      Steps x = Told (seen p (after_step x).answer) (progress_of x.state t).scan

      is_chosen : IsChosen p s t
      is_chosen = chosen_known p s t known c

      made : (x : Answered Moment) (d : Change) → Made p s x t d → Needs s t d → Fits t (seen p (after_step x).answer) before d → Steps x
      made x d m needs fits =
          let e = seen p (after_step x).answer in
          by_change e d needs fits
          (count_at 0 table e cs t (h.place.mirrors.many ∙ sym (table_length p valid)) (let n = table_length p valid in omega arith)
          ∙ (ap (λ n. counted (slice_index_or table t no_audit) n e was) (let z : 0 + t ≡ t = omega arith in z)
          ∙ (ap (λ (d : AuditTask). counted d t e was) (same_task p valid s t known within) ∙ m.counts was (h.place.mirrors.shows t within))))
          ∙ sym (ap (λ (v : TaskView). program_in v.scan) m.view)

      module _ (scan : Scan) (a : Advanced) (is : q.scan ≡ Some scan) where
        abbrev after : Effect → Answered Moment
        after e = after_effect (moved s t q scan a) t (gone_on q scan a) scan.program e

        abbrev scan' : Scan
        scan' = record scan { position = a.position }

        same_before : before ≡ Some scan.program
        same_before = ap program_in is

        goes : (m : TraceMark) (e : Effect) → Made p s (after e) t (Goes m scan') → scanned_after t (seen p (after_step (after e)).answer) before ≡ before → Steps (after e)
        goes m e made_so same = made (after e) (Goes m scan') made_so c (same ∙ same_before)

        open_flag : (b : Bool) → is_syncing scan.position.copy ≡ b → has_open_cps (state_of s.table t) ≡ b
        open_flag b e = (known.sound t).agrees ∙ (ap syncs is ∙ e)

        ended_here : scanned_after t (event.Left t scan.program true) before ≡ None
        ended_here = same_number t None before

        by_finish : (b : Bool) (x : Answered Moment) → Made p s x t (if b then Restarts s.tick s.table.next else GoesDown) → Steps x
        by_finish true x m = made x (Restarts s.tick s.table.next) m tt tt
        by_finish false x m = made x GoesDown m tt tt

        abbrev finished : Bool → Answered Moment
        finished b = plainly (with_progress t (dropped (gone_on q scan a)) (with_table (release_some (if b then Some t else None) s.tick (record s.table { states = slice_set s.table.states t None })) (moved s t q scan a))) (what.Left t scan.program true)

        by_kind : (b : Bool) → is_continuous (task s.table t).kind ≡ b → nat_lt (q.ended + 1) (length (programs_of s t)) ≡ false → Steps (finished (is_continuous (task s.table t).kind))
        by_kind b kind more = subst (λ (d : Bool). Steps (finished d)) (sym kind) (by_finish b (finished b) (own_finish p s t is_chosen scan a b kind more))

        by_end : Steps (after (effect.Left true))
        by_end =
            cond_both (nat_lt (q.ended + 1) (length (programs_of s t))) _ _ (λ (x : State). Steps (plainly x (what.Left t scan.program true)))
            (λ more. made _ Ends (own_next p s t is_chosen scan a more) c ended_here) (λ more. by_kind (is_continuous (task s.table t).kind) refl more)

        by_effect : (e : Effect) → EffectCopies scan.position.copy e a.position.copy → Steps (after e)
        by_effect effect.Ran copies = goes Plain effect.Ran (own_ran p s t is_chosen scan a) refl
        by_effect effect.Up copies = goes Up effect.Up (own_up p s t is_chosen scan a) refl
        by_effect effect.Down copies = goes Down effect.Down (own_down p s t is_chosen scan a) refl
        by_effect (effect.Trigger other) copies = goes (Trigger other) (effect.Trigger other) (own_trigger p s t is_chosen scan a other (release_answer s.table other) refl) refl
        by_effect (effect.CopyStart true) copies = goes Sync (effect.CopyStart true) (own_start p s t is_chosen scan a true (open_flag false (ap is_syncing copies.0))) refl
        by_effect (effect.CopyStart false) copies = goes Copy (effect.CopyStart false) (own_start p s t is_chosen scan a false (open_flag false (ap is_syncing copies.0))) refl
        by_effect (effect.Copied true true) copies = goes SyncEnd (effect.Copied true true) (own_last p s t is_chosen scan a true (open_flag true copies.0)) refl
        by_effect (effect.Copied true false) copies = goes CopyEnd (effect.Copied true false) (own_last p s t is_chosen scan a false (open_flag false copies.0)) refl
        by_effect (effect.Copied false sync) copies = goes Plain (effect.Copied false sync) (own_copied p s t is_chosen scan a sync) refl
        by_effect (effect.Left true) copies = by_end
        by_effect (effect.Left false) copies = goes Plain (effect.Left false) (own_left p s t is_chosen scan a) refl
        by_effect effect.Minor copies = goes Plain effect.Minor (own_minor p s t is_chosen scan a) refl
        by_effect (effect.Major code) copies = made (after (effect.Major code)) GoesDown (own_major p s t is_chosen scan a code) tt tt

      by_scan : (o : Option Scan) → q.scan ≡ o → Steps (scan_step s t q o)
      by_scan None is =
          let n = next_program s t q in
          let begun : Scan = new_scan s n in
          made (scan_step s t q None) (Begins begun)
          (record {
            view = own_progress (state_of s.table t) s.progress t _ is_chosen.in_progress;
            counts = λ d w. same_number t _ d;
            begun = λ books b. same_number t _ b;
            starts = refl;
            ends = refl;
          }) c (same_number t (Some n) before)
      by_scan (Some scan) is =
          let a = advance scan.rungs scan.position s.image s.tick scan.first q.flags in
          by_effect scan a is a.effect (step_copies scan.rungs scan.position s.image s.tick scan.first q.flags)

      own_told : Steps (task_step s (Some t))
      own_told = by_scan q.scan refl

  -- ---- a place of a run

  module _ (s : State) (cs : List Counted) (ns : List Numbers) (past : List CountedEvent) (h : Stands p s cs past) (k : IsScanned s cs past) where
    -- what is counted after a step of this task
    abbrev After : (t : ℕ) → t < length p.tasks → Option ℕ → Type 0
    After t l o = let x = task_step s o in Told s cs ns past h k t l (seen p (after_step x).answer) (progress_of x.state t).scan

    after_step_of : (t : ℕ) → (l : t < length p.tasks) → (o : Option ℕ) → chosen s.table ≡ o → After t l (chosen s.table)
    after_step_of t l None c =
        let f : None ≡ Some t → ⊥ = λ q. cc in
        other_told s cs ns past h k t l Cpu (λ m. f (sym c ∙ m.chosen)) (λ q. f (sym c ∙ step_of_chosen p s Cpu t q))
    after_step_of t l (Some u) c =
        elim (cases_eq u t) [
          | inl e ↦ (let is : chosen s.table ≡ Some t = c ∙ ap (λ (n : ℕ). Some n) e in subst (After t l) (sym is) (own_told s cs ns past h k t l is))
          | inr ne ↦ other_told s cs ns past h k t l Cpu (λ m. ne (same_Some u t (sym c ∙ m.chosen))) (λ q. ne (same_Some u t (sym c ∙ step_of_chosen p s Cpu t q)))
        ]

    scanned_next : (e : Event) → IsScanned (step s e).state (counts_next p valid s e cs) (place p s cs ns e ∷ past)
    scanned_next Cpu t l = after_step_of t l (chosen s.table) refl
    scanned_next Tick t l = other_told s cs ns past h k t l Tick (λ m. (let f : Tick ≡ Cpu → ⊥ = λ q. cc in f m.step)) (λ q. cc q)
    scanned_next (Act lane a) t l = other_told s cs ns past h k t l (Act lane a) (λ m. (let f : Act lane a ≡ Cpu → ⊥ = λ q. cc in f m.step)) (λ q. cc q)

    abbrev Keeps : Answered Moment → Type 0
    Keeps x = keeps_scans p.schedule past (record { tasks = cs; programs = ns; event = seen p (after_step x).answer }) ≡ true

    module _ (t : ℕ) (c : chosen s.table ≡ Some t) where
      known_here : Known p s
      known_here = known_at p s h.place.reached

      within_here : t < length p.tasks
      within_here = let u = chosen_up s.table t c in within_tasks p valid s cs h.place t u.0 u.1

      here_scanned : (o : Option Scan) → (progress_of s t).scan ≡ o → scanned t cs past ≡ program_in o
      here_scanned o is = k t within_here ∙ ap program_in is

      keeps_begin : (progress_of s t).scan ≡ None → Keeps (scan_step s t (progress_of s t) None)
      keeps_begin is =
          let q = progress_of s t in
          let n = next_program s t q in
          let same : slice_index (slice_index_or p.schedule t []) (slice_index_or cs t uncounted).ended ≡ n =
          ap (λ j. slice_index (slice_index_or p.schedule t []) j) (h.place.mirrors.shows t within_here).ended ∙ ap (λ (ns : List ℕ). slice_index ns q.ended) (sym (lists p valid s t known_here)) in
          and_from (is_none (scanned t cs past)) _ (ap (λ (o : Option ℕ). is_none o) (here_scanned None is)) (eq-eqb n _ (sym same))

      module _ (scan : Scan) (a : Advanced) (is : (progress_of s t).scan ≡ Some scan) where
        abbrev stepped_by : Effect → Answered Moment
        stepped_by e = after_effect (moved s t (progress_of s t) scan a) t (gone_on (progress_of s t) scan a) scan.program e

        mine : is_task scan.program (scanned t cs past) ≡ true
        mine = ap (is_task scan.program) (here_scanned (Some scan) is) ∙ eq-eqb scan.program scan.program refl

        keeps_effect : (e : Effect) → Keeps (stepped_by e)
        keeps_effect effect.Ran = mine
        keeps_effect effect.Up = mine
        keeps_effect effect.Down = mine
        keeps_effect (effect.Trigger other) = mine
        keeps_effect (effect.CopyStart sync) = mine
        keeps_effect (effect.Copied true sync) = mine
        keeps_effect (effect.Copied false sync) = mine
        keeps_effect (effect.Left true) = mine
        keeps_effect (effect.Left false) = mine
        keeps_effect effect.Minor = mine
        keeps_effect (effect.Major code) = mine

      keeps_scan : (o : Option Scan) → (progress_of s t).scan ≡ o → Keeps (scan_step s t (progress_of s t) o)
      keeps_scan None is = keeps_begin is
      keeps_scan (Some scan) is =
          let a = advance scan.rungs scan.position s.image s.tick scan.first (progress_of s t).flags in
          keeps_effect scan a is a.effect

    keeps_step : (o : Option ℕ) → chosen s.table ≡ o → Keeps (task_step s o)
    keeps_step None c = refl
    keeps_step (Some t) c = keeps_scan t c (progress_of s t).scan refl

    keeps_here : (e : Event) → keeps_scans p.schedule past (place p s cs ns e) ≡ true
    keeps_here Cpu = keeps_step (chosen s.table) refl
    keeps_here Tick = refl
    keeps_here (Act lane a) = refl

  -- ---- a run

  all_along : (s : State) (es : List Event) (cs : List Counted) (ns : List Numbers) (past : List CountedEvent) → Stands p s cs past → IsScanned s cs past → each_with_past (keeps_scans p.schedule) past (places_from p s cs ns es) ≡ true
  all_along s [] cs ns past h k = refl
  all_along s (e ∷ es) cs ns past h k =
      and_from (keeps_scans p.schedule past (place p s cs ns e)) _ (keeps_here s cs ns past h k e)
      (all_along (step s e).state es (counts_next p valid s e cs) (edited_all (seen p (step s e).answer) ns) (place p s cs ns e ∷ past) (stands_next p valid s e cs ns past h) (scanned_next s cs ns past h k e))

  none_scanned : (cs : List Counted) → IsScanned (start p) cs []
  none_scanned cs t l = sym (ap (λ (v : TaskView). program_in v.scan) (start_view p t))

  pub runs_keep_scans : (events : List Event) → each_with_past (keeps_scans p.schedule) [] (counted_run p events) ≡ true
  runs_keep_scans events =
      let cs = map (λ (d : AuditTask). uncounted) table in
      all_along (start p) events cs (replicate (length p.programs) unedited) [] (stands_first p valid) (none_scanned cs)
