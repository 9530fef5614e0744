-- How a step of one task changes another.
use Rattle.std.proofs.Common.{◌≡◌, ℕ, ◌+◌, ◌<◌, Bool, true, false, cond, length, Option, Some, None, refl, sym, ◌∙◌, ap, subst, eq-eqb, length-set, get_or-set_other}
use Rattle.std.specs.Prelude.{nat_eq, nat_lt, not, ◌&&◌, slice_set, slice_index_or, if◌then◌else◌}
use Rattle.std.proofs.lemmas.Bool.{ne_eqb, cond_both}
use Rattle.spec_tables.specs.declared.task.Release.{Release}
use Rattle.spec_tables.specs.declared.task.Release.TheVariants.{Released, Overlap, Inhibited}
use Rattle.spec_tables.specs.Tasks.{TaskState, Table, state_of, task, release_answer, is_continuous, finish, release_some, put_up_if}
use Rattle.spec_scan.specs.declared.bound.Effect.{Effect}
use Rattle.spec_scan.specs.declared.bound.Effect.TheVariants.{Ran, Up, Down, CopyStart, Copied, Left, Minor, Major}
use Rattle.spec_scan.specs.Scan.{Advanced}
use Rattle.spec_machine.specs.declared.answer.What.TheVariants as what
use Rattle.spec_machine.specs.declared.answer.Moment.{Moment}
use Rattle.spec_machine.specs.Project.{Project}
use Rattle.spec_machine.specs.State.{State, Scan, Progress, no_progress, progress_of, programs_of, Answered}
use Rattle.spec_machine.specs.Releases.{after_answer}
use Rattle.spec_machine.specs.ProcessorStep.{triggered, plainly, scan_ended, after_effect, begin_program}
use Rattle.spec_machine.proofs.OrderlyTables.{released_free}
use Rattle.spec_schedule.specs.Counting.{Counted, released}
use Rattle.spec_reach.proofs.Changes.{view_at, view_of, Change, Stays, GoesDown, ComesUp}
use Rattle.spec_reach.proofs.StepChanges.{Made, gone_on, moved}
use Rattle.spec_reach.proofs.Views.{own_view, other_view, other_progress, all_down_view, other_number, answered_inhibited}

-- another task of the table
pub record IsAnother (s : State) (t k : ℕ) : Type 0 where
  pub differs : k ≡ t → ⊥
  pub in_states : k < length s.table.states
  pub in_progress : k < length s.progress

module _ (p : Project) (s : State) (t k : ℕ) (h : IsAnother s t k) (scan : Scan) (a : Advanced) where
  abbrev q' : Progress
  q' = gone_on (progress_of s t) scan a

  abbrev s' : State
  s' = moved s t (progress_of s t) scan a

  abbrev after : Effect → Answered Moment
  after e = after_effect s' t q' scan.program e

  kept : view_of s' k ≡ view_of s k
  kept = other_progress (state_of s.table k) s.progress t k q' h.differs

  set : (u : Option TaskState) → view_at (slice_index_or (slice_set s.table.states t u) k None) (slice_index_or (slice_set s.progress t q') k no_progress) ≡ view_of s k
  set u = other_view s.table.states s.progress t k u q' h.differs

  uncounted_step : (c x : Counted) → cond (nat_eq t k) x c ≡ c
  uncounted_step c x = other_number t k x c h.differs

  -- ---- releases

  abbrev pub by_trigger_of : ℕ → Release → Answered Moment
  by_trigger_of other answer = triggered (what.Ran t scan.program) other (after_answer answer other s')

  -- what is told of a trigger of another task than k
  not_triggered : (other : ℕ) (c x y : Counted) (free : Bool) → (k ≡ other → ⊥) → cond (nat_eq other k && free) x (cond (nat_eq t k) y c) ≡ c
  not_triggered other c x y free ne = ap (λ b. cond (b && free) x (cond (nat_eq t k) y c)) (ne_eqb other k (λ e. ne (sym e))) ∙ uncounted_step c y

  -- what is told of a trigger of task k
  triggered_here : (c y : Counted) (inhibited : Bool) → inhibited ≡ false → cond (nat_eq k k && not inhibited) (released (cond (nat_eq t k) y c)) (cond (nat_eq t k) y c) ≡ released c
  triggered_here c y inhibited free =
      ap (λ b. cond (b && not inhibited) (released (cond (nat_eq t k) y c)) (cond (nat_eq t k) y c)) (eq-eqb k k refl) ∙ (ap (λ b. cond (not b) (released (cond (nat_eq t k) y c)) (cond (nat_eq t k) y c)) free ∙ ap released (uncounted_step c y))

  held_back : (other : ℕ) (c x y : Counted) (inhibited : Bool) → inhibited ≡ true → cond (nat_eq other k && not inhibited) x (cond (nat_eq t k) y c) ≡ c
  held_back other c x y inhibited is = go (nat_eq other k) ∙ uncounted_step c y
    where
      go : (b : Bool) → cond (b && not inhibited) x (cond (nat_eq t k) y c) ≡ cond (nat_eq t k) y c
      go true = ap (λ i. cond (not i) x (cond (nat_eq t k) y c)) is
      go false = refl

  -- a release of another task
  pub apart_trigger : (other : ℕ) (answer : Release) → (k ≡ other → ⊥) → Made p s (by_trigger_of other answer) k Stays
  apart_trigger other Released ne = record { view = other_view s.table.states s'.progress other k _ _ ne ∙ kept; counts = λ c w. not_triggered other c _ c _ ne; begun = λ books b. refl; starts = refl; ends = refl }
  apart_trigger other Overlap ne = record { view = kept; counts = λ c w. uncounted_step c c; begun = λ books b. refl; starts = refl; ends = refl }
  apart_trigger other Inhibited ne = record { view = kept; counts = λ c w. not_triggered other c _ c _ ne; begun = λ books b. refl; starts = refl; ends = refl }

  -- a release of this task, by its answer
  abbrev pub change_by : Release → Change
  change_by Released = ComesUp s.tick s.table.next
  change_by Overlap = Stays
  change_by Inhibited = Stays

  pub here_trigger : (answer : Release) → release_answer s.table k ≡ answer → Made p s (by_trigger_of k answer) k (change_by answer)
  here_trigger Released r = record {
    view = own_view s.table.states s'.progress k _ _ h.in_states (subst (λ n. k < n) (sym (length-set s.progress t q')) h.in_progress);
    counts = λ c w. triggered_here c c _ (released_free s.table k r);
    begun = λ books b. refl;
    starts = refl;
    ends = refl;
  }
  here_trigger Overlap r = record { view = kept; counts = λ c w. uncounted_step c c; begun = λ books b. refl; starts = refl; ends = refl }
  here_trigger Inhibited r = record { view = kept; counts = λ c w. held_back k c _ c _ (answered_inhibited s.table k r); begun = λ books b. refl; starts = refl; ends = refl }

  -- ---- the end of a scan

  abbrev ended : State → Answered Moment
  ended x = plainly x (what.Left t scan.program true)

  put_other : (answer : Release) (x : Table) (u : Option TaskState) → state_of x k ≡ u → state_of (put_up_if answer t s.tick x) k ≡ u
  put_other Released x u e = get_or-set_other x.states t k _ None h.differs ∙ e
  put_other Overlap x u e = e
  put_other Inhibited x u e = e

  release_other : (o : Bool) (x : Table) → state_of x k ≡ state_of s.table k → state_of (release_some (if o then Some t else None) s.tick x) k ≡ state_of s.table k
  release_other true x e = put_other (release_answer x t) x (state_of s.table k) e
  release_other false x e = e

  finish_other : state_of (finish t s.tick s.table) k ≡ state_of s.table k
  finish_other = release_other (is_continuous (task s.table t).kind) (record s.table { states = slice_set s.table.states t None }) (get_or-set_other s.table.states t k None None h.differs)

  at_end : (x : State) → view_of x k ≡ view_of s k → Made p s (ended x) k Stays
  at_end x e = record { view = e; counts = λ c w. uncounted_step c _; begun = λ books b. refl; starts = refl; ends = refl }

  -- the progress of a task that is changed twice
  twice : (u : Option TaskState) (r : Progress) → u ≡ state_of s.table k → view_at u (slice_index_or (slice_set s'.progress t r) k no_progress) ≡ view_of s k
  twice u r e = other_progress u s'.progress t k r h.differs ∙ (ap (λ x. view_at x (progress_of s' k)) e ∙ kept)

  pub end_other : Made p s (ended (scan_ended t q' s')) k Stays
  end_other =
      at_end (scan_ended t q' s') (cond_both (nat_lt (q'.ended + 1) (length (programs_of s t))) _ _ (λ (x : State). view_of x k ≡ view_of s k)
      (λ b. twice _ _ (get_or-set_other s.table.states t k _ None h.differs)) (λ b. twice _ _ finish_other))

  -- ---- all effects but triggers and major faults

  pub other_ran : Made p s (after Ran) k Stays
  other_ran = record { view = kept; counts = λ c w. uncounted_step c c; begun = λ books b. refl; starts = refl; ends = refl }

  pub other_up : Made p s (after Up) k Stays
  other_up = record { view = set _; counts = λ c w. uncounted_step c _; begun = λ books b. refl; starts = refl; ends = refl }

  pub other_down : Made p s (after Down) k Stays
  other_down = record { view = set _; counts = λ c w. uncounted_step c _; begun = λ books b. refl; starts = refl; ends = refl }

  pub other_start : (sync : Bool) → Made p s (after (CopyStart sync)) k Stays
  other_start true = record { view = set _; counts = λ c w. uncounted_step c _; begun = λ books b. refl; starts = ne_eqb t k (λ e. h.differs (sym e)); ends = refl }
  other_start false = record { view = set _; counts = λ c w. uncounted_step c _; begun = λ books b. refl; starts = refl; ends = refl }

  pub other_last : (sync : Bool) → Made p s (after (Copied true sync)) k Stays
  other_last true = record { view = set _; counts = λ c w. uncounted_step c _; begun = λ books b. refl; starts = refl; ends = ne_eqb t k (λ e. h.differs (sym e)) }
  other_last false = record { view = set _; counts = λ c w. uncounted_step c _; begun = λ books b. refl; starts = refl; ends = refl }

  pub other_copied : (sync : Bool) → Made p s (after (Copied false sync)) k Stays
  other_copied sync = record { view = kept; counts = λ c w. uncounted_step c c; begun = λ books b. refl; starts = refl; ends = refl }

  pub other_left : Made p s (after (Left false)) k Stays
  other_left = record { view = kept; counts = λ c w. uncounted_step c c; begun = λ books b. refl; starts = refl; ends = refl }

  pub other_minor : Made p s (after Minor) k Stays
  other_minor = record { view = kept; counts = λ c w. uncounted_step c c; begun = λ books b. refl; starts = refl; ends = refl }

  pub other_major : (code : ℕ) → Made p s (after (Major code)) k GoesDown
  other_major code = record { view = all_down_view s.table.states s'.progress k; counts = λ c w. refl; begun = λ books b. refl; starts = refl; ends = refl }

-- ---- a begin

pub other_begin : (p : Project) (s : State) (t k n : ℕ) (r : Progress) → (k ≡ t → ⊥) → Made p s (begin_program s t r n) k Stays
other_begin p s t k n r ne = record {
  view = other_progress (state_of s.table k) s.progress t k _ ne;
  counts = λ c w. other_number t k _ c ne;
  begun = λ books b. other_number t k _ b ne;
  starts = refl;
  ends = refl;
}
