-- How a processor step changes its task, and how the others.
use Rattle.std.proofs.Common.{◌≡◌, ℕ, ◌+◌, ◌<◌, Bool, true, false, cond, List, length, Option, Some, None, refl, sym, ◌∙◌, ap, subst, eq-eqb, length-set, get_or-set_same}
use Rattle.std.specs.Prelude.{is_some, nat_eq, nat_lt, ◌&&◌, slice_set, slice_index_or, if◌then◌else◌}
use Rattle.std.proofs.lemmas.Bool.{ne_eqb}
use Rattle.spec_tables.specs.declared.task.Release.{Release}
use Rattle.spec_tables.specs.declared.task.Release.TheVariants.{Released, Overlap, Inhibited}
use Rattle.spec_tables.specs.Tasks.{TaskState, Table, state_of, task, is_up, release_answer, has_open_cps, with_cps_open, is_continuous, region_clear, release_some, put_up_if}
use Rattle.spec_scan.specs.Position.{ProgramRungs}
use Rattle.spec_scan.specs.declared.bound.Effect.{Effect}
use Rattle.spec_scan.specs.declared.bound.Effect.TheVariants.{Ran, Up, Down, CopyStart, Copied, Left, Minor, Major}
use Rattle.spec_scan.specs.Scan.{Advanced}
use Rattle.spec_machine.specs.declared.answer.What.TheVariants as what
use Rattle.spec_machine.specs.declared.answer.Moment.{Moment}
use Rattle.spec_machine.specs.Edits.{Book}
use Rattle.spec_machine.specs.Project.{Project}
use Rattle.spec_machine.specs.State.{State, Scan, Progress, no_progress, dropped, progress_of, programs_of, Answered}
use Rattle.spec_machine.specs.Releases.{after_answer}
use Rattle.spec_machine.specs.ProcessorStep.{triggered, plainly, with_table, with_progress, after_effect}
use Rattle.spec_machine.specs.Machine.{after_step}
use Rattle.spec_schedule.specs.declared.trace.TraceMark.TheVariants as mark
use Rattle.spec_schedule.specs.Counting.{Counted, counted, gone_down, released, is_task}
use Rattle.spec_schedule.specs.Stages.{begins, sync_start, sync_end}
use Rattle.spec_schedule.specs.TraceView.{audit_task, seen}
use Rattle.spec_reach.proofs.Changes.{view_at, view_of, Shows, Change, GoesDown, Restarts, Goes, Ends, fresh, marked_state, changed, counts_after, begun_after, starts_copy, ends_copy}
use Rattle.spec_reach.proofs.Views.{own_view, own_progress, other_view, all_down_view, same_number, up_overlaps, IsChosen}

-- ---- what a step of task t makes of task k

-- a state after a step and its moment, as an event makes them
pub record Made (p : Project) (s : State) (x : Answered Moment) (k : ℕ) (change : Change) : Type 0 where
  pub view : view_of x.state k ≡ changed change (view_of s k)
  pub counts : (c : Counted) → Shows (view_of s k) c → counted (audit_task (task s.table k) (programs_of s k)) k (seen p (after_step x).answer) c ≡ counts_after change c
  pub begun : (books : List Book) (b : Option ProgramRungs) → begins k (after_step x).answer books b ≡ begun_after change books b
  pub starts : is_task k (sync_start (after_step x).answer) ≡ starts_copy change
  pub ends : is_task k (sync_end (after_step x).answer) ≡ ends_copy change

-- the scan goes on from here
abbrev pub gone_on : Progress → Scan → Advanced → Progress
gone_on q scan a = record { ended = q.ended; scan = Some (record scan { position = a.position }); flags = a.flags }

-- the state with the step's image, flags and position
abbrev pub moved : State → ℕ → Progress → Scan → Advanced → State
moved s t q scan a = record (with_progress t (gone_on q scan a) s) { image = a.image }

module _ (p : Project) (s : State) (t : ℕ) (h : IsChosen p s t) (scan : Scan) (a : Advanced) where
  abbrev q : Progress
  q = progress_of s t

  abbrev q' : Progress
  q' = gone_on q scan a

  abbrev s' : State
  s' = moved s t q scan a

  abbrev scan' : Scan
  scan' = record scan { position = a.position }

  abbrev after : Effect → Answered Moment
  after e = after_effect s' t q' scan.program e

  -- the table's state of the task becomes u
  own : (u : Option TaskState) → view_at (slice_index_or (slice_set s.table.states t u) t None) (slice_index_or (slice_set s.progress t q') t no_progress) ≡ view_at u q'
  own u = own_view s.table.states s.progress t u q' h.in_states h.in_progress

  kept : view_of s' t ≡ view_at (state_of s.table t) q'
  kept = own_progress (state_of s.table t) s.progress t q' h.in_progress

  -- a flag of an open CPS that is off stays so
  flag_off : (o : Option TaskState) → has_open_cps o ≡ false → with_cps_open false o ≡ o
  flag_off None e = refl
  flag_off (Some u) e = ap (λ b. Some (record u { cps_open = b })) (sym e)

  pub own_ran : Made p s (after Ran) t (Goes mark.Plain scan')
  own_ran = record { view = kept; counts = λ c w. same_number t c c; begun = λ books b. refl; starts = refl; ends = refl }

  pub own_up : Made p s (after Up) t (Goes mark.Up scan')
  own_up = record { view = own (marked_state mark.Up (state_of s.table t)); counts = λ c w. same_number t _ c; begun = λ books b. refl; starts = refl; ends = refl }

  pub own_down : Made p s (after Down) t (Goes mark.Down scan')
  own_down = record { view = own (marked_state mark.Down (state_of s.table t)); counts = λ c w. same_number t _ c; begun = λ books b. refl; starts = refl; ends = refl }

  pub own_start : (sync : Bool) → has_open_cps (state_of s.table t) ≡ false → Made p s (after (CopyStart sync)) t (Goes (if sync then mark.Sync else mark.Copy) scan')
  own_start true off = record { view = own (with_cps_open true (state_of s.table t)); counts = λ c w. same_number t _ c; begun = λ books b. refl; starts = eq-eqb t t refl; ends = refl }
  own_start false off = record { view = own (with_cps_open false (state_of s.table t)) ∙ ap (λ u. view_at u q') (flag_off (state_of s.table t) off); counts = λ c w. same_number t c c; begun = λ books b. refl; starts = refl; ends = refl }

  pub own_last : (sync : Bool) → has_open_cps (state_of s.table t) ≡ sync → Made p s (after (Copied true sync)) t (Goes (if sync then mark.SyncEnd else mark.CopyEnd) scan')
  own_last true on = record { view = own (with_cps_open false (state_of s.table t)); counts = λ c w. same_number t _ c; begun = λ books b. refl; starts = refl; ends = eq-eqb t t refl }
  own_last false off = record { view = own (with_cps_open false (state_of s.table t)) ∙ ap (λ u. view_at u q') (flag_off (state_of s.table t) off); counts = λ c w. same_number t c c; begun = λ books b. refl; starts = refl; ends = refl }

  pub own_copied : (sync : Bool) → Made p s (after (Copied false sync)) t (Goes mark.Plain scan')
  own_copied sync = record { view = kept; counts = λ c w. same_number t c c; begun = λ books b. refl; starts = refl; ends = refl }

  pub own_left : Made p s (after (Left false)) t (Goes mark.Plain scan')
  own_left = record { view = kept; counts = λ c w. same_number t c c; begun = λ books b. refl; starts = refl; ends = refl }

  pub own_minor : Made p s (after Minor) t (Goes mark.Plain scan')
  own_minor = record { view = kept; counts = λ c w. same_number t c c; begun = λ books b. refl; starts = refl; ends = refl }

  pub own_major : (code : ℕ) → Made p s (after (Major code)) t GoesDown
  own_major code = record { view = all_down_view s.table.states s'.progress t; counts = λ c w. refl; begun = λ books b. refl; starts = refl; ends = refl }

  -- ---- a trigger

  abbrev by_trigger : ℕ → Release → Answered Moment
  by_trigger other answer = triggered (what.Ran t scan.program) other (after_answer answer other s')

  -- the task of the step is up, so that a trigger of it releases nothing
  not_released : (other : ℕ) → release_answer s.table other ≡ Released → t ≡ other → ⊥
  not_released other r e = let f : Overlap ≡ Released → ⊥ = λ x. cc in f (sym (up_overlaps s.table t h.state h.up h.free) ∙ (ap (release_answer s.table) e ∙ r))

  not_inhibited : (other : ℕ) → release_answer s.table other ≡ Inhibited → t ≡ other → ⊥
  not_inhibited other r e = let f : Overlap ≡ Inhibited → ⊥ = λ x. cc in f (sym (up_overlaps s.table t h.state h.up h.free) ∙ (ap (release_answer s.table) e ∙ r))

  untriggered : (other : ℕ) (c x : Counted) (free : Bool) → (t ≡ other → ⊥) → cond (nat_eq other t && free) x (cond (nat_eq t t) c c) ≡ c
  untriggered other c x free ne = ap (λ b. cond (b && free) x (cond (nat_eq t t) c c)) (ne_eqb other t (λ e. ne (sym e))) ∙ same_number t c c

  pub own_trigger : (other : ℕ) (answer : Release) → release_answer s.table other ≡ answer → Made p s (by_trigger other answer) t (Goes (mark.Trigger other) scan')
  own_trigger other Released r = record {
    view = other_view s.table.states s'.progress other t _ _ (not_released other r) ∙ kept;
    counts = λ c w. untriggered other c _ _ (not_released other r);
    begun = λ books b. refl;
    starts = refl;
    ends = refl;
  }
  own_trigger other Overlap r = record { view = kept; counts = λ c w. same_number t c c; begun = λ books b. refl; starts = refl; ends = refl }
  own_trigger other Inhibited r = record { view = kept; counts = λ c w. untriggered other c _ _ (not_inhibited other r); begun = λ books b. refl; starts = refl; ends = refl }

  -- ---- the end of a scan

  abbrev many : ℕ
  many = length (programs_of s t)

  abbrev ended : State → Answered Moment
  ended x = plainly x (what.Left t scan.program true)

  -- what is counted at the end of a program
  abbrev count_end : Counted → ℕ → Counted
  count_end c n = cond (nat_lt (n + 1) many) (record c { ended = c.ended + 1; region_count = 0 }) (cond (is_continuous (task s.table t).kind) (released (gone_down c)) (gone_down c))

  counts_end : (c : Counted) (x : Counted) → Shows (view_of s t) c → count_end c q.ended ≡ x → cond (nat_eq t t) (count_end c c.ended) c ≡ x
  counts_end c x w e = same_number t _ c ∙ (ap (count_end c) w.ended ∙ e)

  pub own_next : nat_lt (q.ended + 1) many ≡ true → Made p s (ended (with_progress t (record q' { ended = q.ended + 1; scan = None }) (with_table (region_clear t s.table) s'))) t Ends
  own_next more = record {
    view = own_view s.table.states s'.progress t _ _ h.in_states (subst (λ n. t < n) (sym (length-set s.progress t q')) h.in_progress);
    counts = λ c w. counts_end c _ w (ap (λ b. cond b (record c { ended = c.ended + 1; region_count = 0 }) (cond (is_continuous (task s.table t).kind) (released (gone_down c)) (gone_down c))) more);
    begun = λ books b. refl;
    starts = refl;
    ends = refl;
  }

  -- down, and up again if it is continuous
  abbrev taken_out : Table
  taken_out = record s.table { states = slice_set s.table.states t None }

  abbrev finished : Bool → State
  finished continuous = with_progress t (dropped q') (with_table (release_some (if continuous then Some t else None) s.tick taken_out) s')

  last_counted : (c : Counted) (b : Bool) → nat_lt (q.ended + 1) many ≡ false → is_continuous (task s.table t).kind ≡ b → count_end c q.ended ≡ cond b (released (gone_down c)) (gone_down c)
  last_counted c b more kind = ap (λ m. cond m (record c { ended = c.ended + 1; region_count = 0 }) (cond (is_continuous (task s.table t).kind) (released (gone_down c)) (gone_down c))) more ∙ ap (λ k. cond k (released (gone_down c)) (gone_down c)) kind

  out_down : state_of taken_out t ≡ None
  out_down = get_or-set_same s.table.states t None None h.in_states

  out_released : release_answer taken_out t ≡ Released
  out_released = ap (λ b. cond b Inhibited (cond (is_up taken_out t) Overlap Released)) h.free ∙ ap (λ o. cond (is_some o) Overlap Released) out_down

  again_view : (answer : Release) → answer ≡ Released → view_of (with_progress t (dropped q') (with_table (put_up_if answer t s.tick taken_out) s')) t ≡ record { state = Some (fresh s.tick s.table.next); ended = 0; scan = None }
  again_view Released e = own_view taken_out.states s'.progress t _ _ (subst (λ n. t < n) (sym (length-set s.table.states t None)) h.in_states) (subst (λ n. t < n) (sym (length-set s.progress t q')) h.in_progress)
  again_view Overlap e = absurd (cc e)
  again_view Inhibited e = absurd (cc e)

  pub own_finish : (b : Bool) → is_continuous (task s.table t).kind ≡ b → nat_lt (q.ended + 1) many ≡ false → Made p s (ended (finished b)) t (if b then Restarts s.tick s.table.next else GoesDown)
  own_finish true kind more = record {
    view = again_view (release_answer taken_out t) out_released;
    counts = λ c w. counts_end c _ w (last_counted c true more kind);
    begun = λ books b. refl;
    starts = refl;
    ends = refl;
  }
  own_finish false kind more = record {
    view = own_view s.table.states s'.progress t None (dropped q') h.in_states (subst (λ n. t < n) (sym (length-set s.progress t q')) h.in_progress);
    counts = λ c w. counts_end c _ w (last_counted c false more kind);
    begun = λ books b. refl;
    starts = refl;
    ends = refl;
  }
