-- What is seen of a run keeps the law of copies.
use Rattle.std.proofs.Common.{◌≡◌, ℕ, ◌+◌, ◌<◌, inl, inr, Bool, true, false, cond, List, [], ◌∷◌, length, Option, Some, None, refl, sym, ◌∙◌, ap, subst, arith}
use Rattle.std.specs.Prelude.{◌&&◌, if◌then◌else◌, is_none, is_some, nat_eq, nat_lt, slice_index_or, slice_set}
use Rattle.std.proofs.lemmas.Bool.{and_from, cases_eq, cond_both, eq-eqb, ne_eqb}
use Rattle.std.proofs.lemmas.Option.{same_Some}
use Rattle.spec_tables.specs.Tasks.{TaskState, task, state_of, chosen, has_open_cps, is_continuous, release_answer, release_some}
use Rattle.spec_tables.proofs.StateLists.{chosen_up}
use Rattle.spec_scan.specs.declared.bound.Copying.{Copying}
use Rattle.spec_scan.specs.declared.bound.Effect.{Effect}
use Rattle.spec_scan.specs.declared.bound.Effect.TheVariants as effect
use Rattle.spec_scan.specs.Scan.{Advanced, advance}
use Rattle.spec_machine.specs.declared.answer.Moment.{Moment}
use Rattle.spec_machine.specs.declared.answer.What.TheVariants as what
use Rattle.spec_machine.specs.declared.event.Event.{Event}
use Rattle.spec_machine.specs.declared.event.Event.TheVariants.{Cpu, Tick, Act}
use Rattle.spec_machine.specs.Machine.{after_step, step}
use Rattle.spec_machine.specs.ProcessorStep.{plainly, with_progress, with_table, new_scan, next_program, after_effect, scan_step, task_step}
use Rattle.spec_machine.specs.Project.{Project}
use Rattle.spec_machine.specs.Releases.{release_task}
use Rattle.spec_machine.specs.State.{State, Scan, Progress, progress_of, programs_of, dropped, start, Answered}
use Rattle.spec_machine.specs.ValidProject.{IsValidProject}
use Rattle.spec_schedule.specs.declared.trace.AuditTask.{AuditTask}
use Rattle.spec_schedule.specs.declared.trace.TraceMark.{TraceMark}
use Rattle.spec_schedule.specs.declared.trace.TraceMark.TheVariants.{Plain, Up, Down, Trigger, Copy, Sync, CopyEnd, SyncEnd}
use Rattle.spec_schedule.specs.declared.trace.StepFault.{StepFault}
use Rattle.spec_schedule.specs.declared.trace.StepFault.TheVariants as fault
use Rattle.spec_schedule.specs.declared.trace.TraceEvent.{TraceEvent}
use Rattle.spec_schedule.specs.declared.trace.TraceEvent.TheVariants as event
use Rattle.spec_schedule.specs.Counting.{Counted, uncounted, counted, counted_all, marked, Numbers, CountedEvent, stepping}
use Rattle.spec_schedule.specs.Legal.{no_task as no_audit}
use Rattle.spec_schedule.specs.TraceView.{audit_tasks, fault_of, seen}
use Rattle.spec_reach.proofs.Changes.{TaskView, view_of, Change, Stays, Rotates, GoesDown, ComesUp, Restarts, Begins, Goes, Ends, changed, counts_after, IsStepOf, Makes, Known}
use Rattle.spec_reach.proofs.Reached.{happens, known_at, start_view}
use Rattle.spec_reach.proofs.StepChanges.{Made, gone_on, moved, own_ran, own_up, own_down, own_start, own_last, own_copied, own_left, own_minor, own_major, own_trigger, own_next, own_finish}
use Rattle.spec_reach.proofs.Views.{own_progress, same_number, IsChosen, chosen_known}
use Rattle.spec_reach.specs.Scans.{is_syncing, syncs}
use Rattle.spec_legal.specs.LegalRuns.{counted_run}
use Rattle.spec_legal.proofs.Along.{place, IsPlace, counts_next}
use Rattle.spec_legal.proofs.CountedLists.{count_at}
use Rattle.spec_legal.proofs.Mirrors.{counted_next, same_task, table_length}
use Rattle.spec_legal.proofs.Priority.{step_of_chosen, within_tasks, up_counted}
use Rattle.spec_laws.specs.CountedBack.{is_up_since, each_with_past}
use Rattle.lgx_laws.specs.Copies.{copies_on, copied_after, copied, goes_on, keeps_copies}
use Rattle.lgx_laws.proofs.Elements.{kind_of, EffectKinds, step_kinds}
use Rattle.lgx_laws.proofs.RunsBack.{all_of_run, no_counts, no_edits}

-- ---- an event, and the copy of a scan

-- the copy of a scan
abbrev copy_in : Option Scan → Option Bool
copy_in None = None
copy_in (Some scan) = kind_of scan.position.copy

mark_downs : (m : TraceMark) (c : Counted) → (marked m c).downs ≡ c.downs
mark_downs Plain c = refl
mark_downs Up c = refl
mark_downs Down c = refl
mark_downs (Trigger t) c = refl
mark_downs Copy c = refl
mark_downs Sync c = refl
mark_downs CopyEnd c = refl
mark_downs SyncEnd c = refl

not_mine : (t : ℕ) (e : TraceEvent) (w : Option Bool) → (stepping e ≡ Some t → ⊥) → copied_after t e w ≡ w
not_mine t event.Idle w ne = refl
not_mine t (event.Began u g v) w ne = refl
not_mine t (event.Step u g m f) w ne = ap (λ b. cond b (copies_on m w) w) (ne_eqb u t (λ e. ne (ap (λ (k : ℕ). Some k) e)))
not_mine t (event.Left u g b) w ne = refl
not_mine t (event.Tick r o w') w ne = refl
not_mine t (event.Act lane verb g answer mask) w ne = refl

-- what is counted of a task's copy fits what happens to the task
abbrev Fits : ℕ → TraceEvent → Option Bool → Change → Type 0
Fits t e w Stays = copied_after t e w ≡ w
Fits t e w (Rotates n) = copied_after t e w ≡ w
Fits t e w GoesDown = Unit {0}
Fits t e w (ComesUp now rank) = Unit {0}
Fits t e w (Restarts now rank) = Unit {0}
Fits t e w (Begins scan) = copied_after t e w ≡ kind_of scan.position.copy
Fits t e w (Goes m scan) = copied_after t e w ≡ kind_of scan.position.copy
Fits t e w Ends = copied_after t e w ≡ None

-- what has to be known of the task for a change
abbrev Needs : State → ℕ → Change → Type 0
Needs s t (ComesUp now rank) = state_of s.table t ≡ None
Needs s t (Begins scan) = chosen s.table ≡ Some t
Needs s t (Goes m scan) = chosen s.table ≡ Some t
Needs s t Ends = chosen s.table ≡ Some t
Needs s t _ = Unit {0}

module _ (p : Project) (valid : IsValidProject p) where
  abbrev table : List AuditTask
  table = audit_tasks p.tasks p.schedule

  abbrev IsCopied : State → List Counted → List Numbers → List CountedEvent → Type 0
  IsCopied s cs ns past = (t : ℕ) → t < length p.tasks → copied t cs past ≡ copy_in (progress_of s t).scan

  module _ (s : State) (cs : List Counted) (ns : List Numbers) (past : List CountedEvent) (h : IsPlace p s cs) (k : IsCopied s cs ns past) (t : ℕ) (within : t < length p.tasks) where
    abbrev was : Counted
    was = slice_index_or cs t uncounted

    abbrev before : Option Bool
    before = copy_in (progress_of s t).scan

    known : Known p s
    known = known_at p s h.reached

    -- ---- an event, by what it makes of the task

    module _ (e : TraceEvent) where
      abbrev here : CountedEvent
      here = record { tasks = cs; programs = ns; event = e }

      abbrev counts : List Counted
      counts = counted_all table e cs

      abbrev now : Counted
      now = slice_index_or counts t uncounted

      abbrev Told : Option Scan → Type 0
      Told o = copied t counts (here ∷ past) ≡ copy_in o

      from : (b : Bool) → is_up_since t counts here ≡ b → copied t counts (here ∷ past) ≡ cond b (copied_after t e before) None
      from b up = ap (λ c. cond c (copied_after t e (copied t cs past)) None) up ∙ ap (λ w. cond b (copied_after t e w) None) (k t within)

      stays_up : was.up ≡ true → now.downs ≡ was.downs → is_up_since t counts here ≡ true
      stays_up up d = and_from was.up (nat_eq was.downs now.downs) up (eq-eqb was.downs now.downs (sym d))

      was_down : was.up ≡ false → is_up_since t counts here ≡ false
      was_down down = ap (λ b. b && nat_eq was.downs now.downs) down

      -- one that has gone down in the event isn't up since
      gone : (up : Bool) → was.up ≡ up → now.downs ≡ cond was.up (was.downs + 1) was.downs → is_up_since t counts here ≡ false
      gone false up d = was_down up
      gone true up d =
          let more : now.downs ≡ was.downs + 1 = d ∙ ap (λ b. cond b (was.downs + 1) was.downs) up in
          ap (λ b. b && nat_eq was.downs now.downs) up ∙ ne_eqb was.downs now.downs (λ q. absurd (omega arith))

      -- a task that was down has no scan, one that was up the one that is counted
      unchanged : (o : Option Scan) → o ≡ (progress_of s t).scan → now.downs ≡ was.downs → copied_after t e before ≡ before → (up : Bool) → was.up ≡ up → Told o
      unchanged o same d fits true up = from true (stays_up up d) ∙ (fits ∙ ap copy_in (sym same))
      unchanged o same d fits false up = from false (was_down up) ∙ ap copy_in (sym (same ∙ none (state_of s.table t) refl))
        where
          none : (u : Option TaskState) → state_of s.table t ≡ u → (progress_of s t).scan ≡ None
          none None g = ((known.sound t).down g).0
          none (Some u) g = absurd (cc (sym up ∙ up_counted p valid s cs h t u g))

      up_if_chosen : chosen s.table ≡ Some t → was.up ≡ true
      up_if_chosen c = let u = chosen_up s.table t c in up_counted p valid s cs h t u.0 u.1

      by_change : (c : Change) → Needs s t c → Fits t e before c → now ≡ counts_after c was → Told (changed c (view_of s t)).scan
      by_change Stays m f q = unchanged (progress_of s t).scan refl (ap (λ (x : Counted). x.downs) q) f was.up refl
      by_change (Rotates n) m f q = unchanged (progress_of s t).scan refl (ap (λ (x : Counted). x.downs) q) f was.up refl
      by_change GoesDown m f q = from false (gone was.up refl (ap (λ (x : Counted). x.downs) q))
      by_change (ComesUp tick rank) m f q = from false (was_down ((h.mirrors.shows t within).up ∙ ap is_some m))
      by_change (Restarts tick rank) m f q = from false (gone was.up refl (ap (λ (x : Counted). x.downs) q))
      by_change (Begins scan) m f q = from true (stays_up (up_if_chosen m) (ap (λ (x : Counted). x.downs) q)) ∙ f
      by_change (Goes mark scan) m f q = from true (stays_up (up_if_chosen m) (ap (λ (x : Counted). x.downs) q ∙ mark_downs mark was)) ∙ f
      by_change Ends m f q = from true (stays_up (up_if_chosen m) (ap (λ (x : Counted). x.downs) q)) ∙ f

    -- ---- an event that is no step of the task

    module _ (e : Event) (none : IsStepOf s e t → ⊥) (ne : stepping (seen p (step s e).answer) ≡ Some t → ⊥) where
      abbrev seen_here : TraceEvent
      seen_here = seen p (step s e).answer

      other_needs : (c : Change) → Makes s e t c → Needs s t c
      other_needs Stays m = tt
      other_needs (Rotates n) m = tt
      other_needs GoesDown m = tt
      other_needs (ComesUp tick rank) m = m.0
      other_needs (Restarts tick rank) m = tt
      other_needs (Begins scan) m = m.0.chosen
      other_needs (Goes mark scan) m = m.0.chosen
      other_needs Ends m = m.0.chosen

      other_fits : (c : Change) → Makes s e t c → Fits t seen_here before c
      other_fits Stays m = not_mine t seen_here before ne
      other_fits (Rotates n) m = not_mine t seen_here before ne
      other_fits GoesDown m = tt
      other_fits (ComesUp tick rank) m = tt
      other_fits (Restarts tick rank) m = tt
      other_fits (Begins scan) m = absurd (none m.0)
      other_fits (Goes mark scan) m = absurd (none m.0)
      other_fits Ends m = absurd (none m.0)

      other_told : Told seen_here (progress_of (step s e).state t).scan
      other_told =
          let x = happens p s e t known within in
          by_change seen_here x.change (other_needs x.change x.makes) (other_fits x.change x.makes) (counted_next p valid s e cs t known h.mirrors within x)
          ∙ sym (ap (λ (v : TaskView). copy_in v.scan) x.view)

    -- ---- a step of the task

    module _ (c : chosen s.table ≡ Some t) where
      abbrev q : Progress
      q = progress_of s t

      abbrev Steps : Answered Moment → Type 0
      Steps x = Told (seen p (after_step x).answer) (progress_of x.state t).scan

      is_chosen : IsChosen p s t
      is_chosen = chosen_known p s t known c

      made : (x : Answered Moment) (d : Change) → Made p s x t d → Needs s t d → Fits t (seen p (after_step x).answer) before d → Steps x
      made x d m needs fits =
          let e = seen p (after_step x).answer in
          by_change e d needs fits
          (count_at 0 table e cs t (h.mirrors.many ∙ sym (table_length p valid)) (let n = table_length p valid in omega arith)
          ∙ (ap (λ n. counted (slice_index_or table t no_audit) n e was) (let z : 0 + t ≡ t = omega arith in z)
          ∙ (ap (λ (d : AuditTask). counted d t e was) (same_task p valid s t known within) ∙ m.counts was (h.mirrors.shows t within))))
          ∙ sym (ap (λ (v : TaskView). copy_in v.scan) m.view)

      module _ (scan : Scan) (a : Advanced) (is : q.scan ≡ Some scan) where
        abbrev after : Effect → Answered Moment
        after e = after_effect (moved s t q scan a) t (gone_on q scan a) scan.program e

        abbrev scan' : Scan
        scan' = record scan { position = a.position }

        abbrev was_kind : Option Bool
        was_kind = kind_of scan.position.copy

        abbrev now_kind : Option Bool
        now_kind = kind_of a.position.copy

        same_before : before ≡ was_kind
        same_before = ap copy_in is

        -- a step that shows a mark
        marked_so : (m : TraceMark) (f : StepFault) → copies_on m was_kind ≡ now_kind → copied_after t (event.Step t scan.program m f) before ≡ now_kind
        marked_so m f e = same_number t (copies_on m before) before ∙ (ap (copies_on m) same_before ∙ e)

        goes : (m : TraceMark) (e : Effect) → Made p s (after e) t (Goes m scan') → copied_after t (seen p (after_step (after e)).answer) before ≡ now_kind → Steps (after e)
        goes m e made_so fits = made (after e) (Goes m scan') made_so c fits

        none_and_none : was_kind ≡ None → now_kind ≡ None → was_kind ≡ now_kind
        none_and_none a b = a ∙ sym b

        open_flag : (b : Bool) → is_syncing scan.position.copy ≡ b → has_open_cps (state_of s.table t) ≡ b
        open_flag b e = (known.sound t).agrees ∙ (ap syncs is ∙ e)

        -- the table's flag is the copy's kind
        syncing : (o : Option Copying) (b : Bool) → kind_of o ≡ Some b → is_syncing o ≡ b
        syncing None b e = absurd (cc e)
        syncing (Some x) b e = same_Some x.sync b e

        not_syncing : (o : Option Copying) → kind_of o ≡ None → is_syncing o ≡ false
        not_syncing None e = refl
        not_syncing (Some x) e = absurd (cc e)

        by_finish : (b : Bool) (x : Answered Moment) → Made p s x t (if b then Restarts s.tick s.table.next else GoesDown) → Steps x
        by_finish true x m = made x (Restarts s.tick s.table.next) m tt tt
        by_finish false x m = made x GoesDown m tt tt

        abbrev finished : Bool → Answered Moment
        finished b = plainly (with_progress t (dropped (gone_on q scan a)) (with_table (release_some (if b then Some t else None) s.tick (record s.table { states = slice_set s.table.states t None })) (moved s t q scan a))) (what.Left t scan.program true)

        by_kind : (b : Bool) → is_continuous (task s.table t).kind ≡ b → nat_lt (q.ended + 1) (length (programs_of s t)) ≡ false → Steps (finished (is_continuous (task s.table t).kind))
        by_kind b kind more = subst (λ (d : Bool). Steps (finished d)) (sym kind) (by_finish b (finished b) (own_finish p s t is_chosen scan a b kind more))

        by_end : was_kind ≡ None → Steps (after (effect.Left true))
        by_end none =
            cond_both (nat_lt (q.ended + 1) (length (programs_of s t))) _ _ (λ (x : State). Steps (plainly x (what.Left t scan.program true)))
            (λ more. made _ Ends (own_next p s t is_chosen scan a more) c (same_before ∙ none)) (λ more. by_kind (is_continuous (task s.table t).kind) refl more)

        by_effect : (e : Effect) → EffectKinds was_kind e now_kind → Steps (after e)
        by_effect effect.Ran k = goes Plain effect.Ran (own_ran p s t is_chosen scan a) (marked_so Plain fault.Plain (k.0 ∙ sym k.1))
        by_effect effect.Up k = goes Up effect.Up (own_up p s t is_chosen scan a) (marked_so Up fault.Plain (k.0 ∙ sym k.1))
        by_effect effect.Down k = goes Down effect.Down (own_down p s t is_chosen scan a) (marked_so Down fault.Plain (k.0 ∙ sym k.1))
        by_effect (effect.Trigger other) k = goes (Trigger other) (effect.Trigger other) (own_trigger p s t is_chosen scan a other (release_answer s.table other) refl) (marked_so (Trigger other) (fault_of (release_task other (moved s t q scan a)).fault) (k.0 ∙ sym k.1))
        by_effect (effect.CopyStart true) k = goes Sync (effect.CopyStart true) (own_start p s t is_chosen scan a true (open_flag false (not_syncing scan.position.copy k.0))) (marked_so Sync fault.Plain (sym k.1))
        by_effect (effect.CopyStart false) k = goes Copy (effect.CopyStart false) (own_start p s t is_chosen scan a false (open_flag false (not_syncing scan.position.copy k.0))) (marked_so Copy fault.Plain (sym k.1))
        by_effect (effect.Copied true true) k = goes SyncEnd (effect.Copied true true) (own_last p s t is_chosen scan a true (open_flag true (syncing scan.position.copy true k.0))) (marked_so SyncEnd fault.Plain (sym k.1))
        by_effect (effect.Copied true false) k = goes CopyEnd (effect.Copied true false) (own_last p s t is_chosen scan a false (open_flag false (syncing scan.position.copy false k.0))) (marked_so CopyEnd fault.Plain (sym k.1))
        by_effect (effect.Copied false sync) k = goes Plain (effect.Copied false sync) (own_copied p s t is_chosen scan a sync) (marked_so Plain fault.Plain (k.0 ∙ sym k.1))
        by_effect (effect.Left true) k = by_end k.0
        by_effect (effect.Left false) k = goes Plain (effect.Left false) (own_left p s t is_chosen scan a) (same_before ∙ (k.0 ∙ sym k.1))
        by_effect effect.Minor k = goes Plain effect.Minor (own_minor p s t is_chosen scan a) (marked_so Plain fault.Minor (k.0 ∙ sym k.1))
        by_effect (effect.Major code) k = made (after (effect.Major code)) GoesDown (own_major p s t is_chosen scan a code) tt tt

      by_scan : (o : Option Scan) → q.scan ≡ o → Steps (scan_step s t q o)
      by_scan None is =
          let n = next_program s t q in
          let begun : Scan = new_scan s n in
          made (scan_step s t q None) (Begins begun)
          (record {
            view = own_progress (state_of s.table t) s.progress t _ is_chosen.in_progress;
            counts = λ d w. same_number t _ d;
            begun = λ books b. same_number t _ b;
            starts = refl;
            ends = refl;
          }) c (ap copy_in is)
      by_scan (Some scan) is =
          let a = advance scan.rungs scan.position s.image s.tick scan.first q.flags in
          by_effect scan a is a.effect (step_kinds scan.rungs scan.position s.image s.tick scan.first q.flags)

      own_told : Steps (task_step s (Some t))
      own_told = by_scan q.scan refl

  -- ---- a place of a run

  module _ (s : State) (cs : List Counted) (ns : List Numbers) (past : List CountedEvent) (h : IsPlace p s cs) (k : IsCopied s cs ns past) where
    -- what is counted after a step of this task
    abbrev After : (t : ℕ) → t < length p.tasks → Option ℕ → Type 0
    After t l o = let x = task_step s o in Told s cs ns past h k t l (seen p (after_step x).answer) (progress_of x.state t).scan

    after_step_of : (t : ℕ) → (l : t < length p.tasks) → (o : Option ℕ) → chosen s.table ≡ o → After t l (chosen s.table)
    after_step_of t l None c =
        let f : None ≡ Some t → ⊥ = λ q. cc in
        other_told s cs ns past h k t l Cpu (λ m. f (sym c ∙ m.chosen)) (λ q. f (sym c ∙ step_of_chosen p s Cpu t q))
    after_step_of t l (Some u) c =
        elim (cases_eq u t) [
          | inl e ↦ (let is : chosen s.table ≡ Some t = c ∙ ap (λ (n : ℕ). Some n) e in subst (After t l) (sym is) (own_told s cs ns past h k t l is))
          | inr ne ↦ other_told s cs ns past h k t l Cpu (λ m. ne (same_Some u t (sym c ∙ m.chosen))) (λ q. ne (same_Some u t (sym c ∙ step_of_chosen p s Cpu t q)))
        ]

    copied_next : (e : Event) → IsCopied (step s e).state (counts_next p valid s e cs) ns (place p s cs ns e ∷ past)
    copied_next Cpu t l = after_step_of t l (chosen s.table) refl
    copied_next Tick t l = other_told s cs ns past h k t l Tick (λ m. (let f : Tick ≡ Cpu → ⊥ = λ q. cc in f m.step)) (λ q. cc q)
    copied_next (Act lane a) t l = other_told s cs ns past h k t l (Act lane a) (λ m. (let f : Act lane a ≡ Cpu → ⊥ = λ q. cc in f m.step)) (λ q. cc q)

    abbrev Keeps : Answered Moment → Type 0
    Keeps x = keeps_copies past (record { tasks = cs; programs = ns; event = seen p (after_step x).answer }) ≡ true

    module _ (t : ℕ) (c : chosen s.table ≡ Some t) where
      within_here : t < length p.tasks
      within_here = let u = chosen_up s.table t c in within_tasks p valid s cs h t u.0 u.1

      here_copied : (o : Option Scan) → (progress_of s t).scan ≡ o → copied t cs past ≡ copy_in o
      here_copied o is = k t within_here ∙ ap copy_in is

      module _ (scan : Scan) (a : Advanced) (is : (progress_of s t).scan ≡ Some scan) where
        abbrev stepped_by : Effect → Answered Moment
        stepped_by e = after_effect (moved s t (progress_of s t) scan a) t (gone_on (progress_of s t) scan a) scan.program e

        -- a step by the copy before it
        shown : (o : Option Bool) (m : TraceMark) (f : StepFault) → kind_of scan.position.copy ≡ o → goes_on (copied t cs past) m f ≡ goes_on o m f
        shown o m f e = ap (λ w. goes_on w m f) (here_copied (Some scan) is ∙ e)

        none_here : kind_of scan.position.copy ≡ None → is_none (copied t cs past) ≡ true
        none_here e = ap (λ (w : Option Bool). is_none w) (here_copied (Some scan) is ∙ e)

        keeps_effect : (e : Effect) → EffectKinds (kind_of scan.position.copy) e (kind_of a.position.copy) → Keeps (stepped_by e)
        keeps_effect effect.Ran k = shown None Plain fault.Plain k.0
        keeps_effect effect.Up k = shown None Up fault.Plain k.0
        keeps_effect effect.Down k = shown None Down fault.Plain k.0
        keeps_effect (effect.Trigger other) k = shown None (Trigger other) (fault_of (release_task other (moved s t (progress_of s t) scan a)).fault) k.0
        keeps_effect (effect.CopyStart true) k = shown None Sync fault.Plain k.0
        keeps_effect (effect.CopyStart false) k = shown None Copy fault.Plain k.0
        keeps_effect (effect.Copied true true) k = shown (Some true) SyncEnd fault.Plain k.0
        keeps_effect (effect.Copied true false) k = shown (Some false) CopyEnd fault.Plain k.0
        keeps_effect (effect.Copied false sync) k = shown (Some sync) Plain fault.Plain k.0
        keeps_effect (effect.Left true) k = none_here k.0
        keeps_effect (effect.Left false) k = none_here k.0
        keeps_effect effect.Minor k = shown None Plain fault.Minor k.0
        keeps_effect (effect.Major code) k = shown None Plain fault.Major k.0

      keeps_scan : (o : Option Scan) → (progress_of s t).scan ≡ o → Keeps (scan_step s t (progress_of s t) o)
      keeps_scan None is = ap (λ (w : Option Bool). is_none w) (here_copied None is)
      keeps_scan (Some scan) is =
          let a = advance scan.rungs scan.position s.image s.tick scan.first (progress_of s t).flags in
          keeps_effect scan a is a.effect (step_kinds scan.rungs scan.position s.image s.tick scan.first (progress_of s t).flags)

    keeps_step : (o : Option ℕ) → chosen s.table ≡ o → Keeps (task_step s o)
    keeps_step None c = refl
    keeps_step (Some t) c = keeps_scan t c (progress_of s t).scan refl

    keeps_here : (e : Event) → keeps_copies past (place p s cs ns e) ≡ true
    keeps_here Cpu = keeps_step (chosen s.table) refl
    keeps_here Tick = refl
    keeps_here (Act lane a) = refl

  -- ---- a run

  none_copied : (cs : List Counted) (ns : List Numbers) → IsCopied (start p) cs ns []
  none_copied cs ns t l = sym (ap (λ (v : TaskView). copy_in v.scan) (start_view p t))

  pub runs_keep_copies : (events : List Event) → each_with_past keeps_copies [] (counted_run p events) ≡ true
  runs_keep_copies events =
      all_of_run p valid IsCopied keeps_copies (λ s e cs ns past h k. copied_next s cs ns past h k e) (λ s e cs ns past h k. keeps_here s cs ns past h k e) (none_copied (no_counts p) (no_edits p)) events
