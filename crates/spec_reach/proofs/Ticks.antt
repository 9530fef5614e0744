-- What happens to each task at a tick.
use Rattle.std.proofs.Common.{◌≡◌, ℕ, zero, suc, ◌+◌, ◌-◌, ◌*◌, ◌^◌, ◌<◌, ◌≤◌, Bool, true, false, cond, List, length, Option, Some, None, ◌⊎◌, inl, inr, refl, sym, ◌∙◌, ap, subst, arith, length-set, get_or-set_same}
use Rattle.std.specs.Prelude.{fold, nat_eq, slice_index_or, if◌then◌else◌}
use Rattle.std.specs.Int.{bit_at}
use Rattle.std.specs.List.{range_with_len}
use Rattle.std.proofs.lemmas.Bool.{cond_both, cases_eq}
use Rattle.std.proofs.lemmas.Nat.Bits.{bit_at-zero, bit_at_above, bit_at_cat_low, bit_at_cat_high}
use Rattle.spec_tables.specs.declared.task.Release.{Release}
use Rattle.spec_tables.specs.declared.task.Release.TheVariants.{Released, Overlap, Inhibited}
use Rattle.spec_tables.specs.Tasks.{Table, state_of, task, release_answer, chosen, is_open, with_rank, to_back, unless_open, rotate, expired, due}
use Rattle.spec_machine.specs.declared.answer.TickReport.{TickReport}
use Rattle.spec_machine.specs.declared.reply.Mode.{Mode}
use Rattle.spec_machine.specs.declared.reply.Mode.TheVariants.{Program, Run, Faulted}
use Rattle.spec_machine.specs.declared.event.Event.TheVariants.{Tick}
use Rattle.spec_machine.specs.Edits.{Book}
use Rattle.spec_machine.specs.Project.{Project}
use Rattle.spec_machine.specs.State.{State, Progress, no_progress, progress_of, programs_of, Answered}
use Rattle.spec_machine.specs.Releases.{after_answer, release_task}
use Rattle.spec_machine.specs.Ticks.{quiet, after_release, release_if_due, release_due, after_watchdogs, in_mode, tick}
use Rattle.spec_machine.specs.Machine.{after_tick}
use Rattle.spec_scan.specs.Position.{ProgramRungs}
use Rattle.spec_schedule.specs.declared.trace.TraceEvent.TheVariants as event
use Rattle.spec_schedule.specs.Counting.{Counted, counted, released, is_task}
use Rattle.spec_schedule.specs.Stages.{begins, sync_start, sync_end}
use Rattle.spec_schedule.specs.TraceView.{audit_task, seen}
use Rattle.spec_machine.proofs.TickFaults.{wider, wide_sum}
use Rattle.spec_reach.proofs.Changes.{TaskView, view_at, view_of, Change, Stays, Rotates, GoesDown, ComesUp, fresh, changed, counts_after, begun_after, starts_copy, ends_copy, TakesTurn, Makes, Happens, Known}
use Rattle.spec_tables.specs.declared.task.TaskDef.{TaskDef}
use Rattle.spec_reach.proofs.Sizes.{unless_open_keeps}
use Rattle.spec_reach.proofs.Views.{own_view, other_view, other_state, all_down_view, released_down, chosen_known}

-- ---- bits of a mask that grows by powers

bit_below : (m k i : ℕ) → i < k → bit_at (m + 2 ^ k) i ≡ bit_at m i
bit_below m k i l = ap (λ n. bit_at n i) (let e : m + 2 ^ k ≡ 1 * 2 ^ k + m = omega arith in e) ∙ bit_at_cat_low 1 k m i l

bit_here : (m k : ℕ) → m < 2 ^ k → bit_at (m + 2 ^ k) k ≡ 1
bit_here m k l =
    ap (λ n. bit_at n k) (let e : m + 2 ^ k ≡ 1 * 2 ^ k + m = omega arith in e)
    ∙ (bit_at_cat_high 1 k m k l (omega arith) ∙ ap (λ n. bit_at 1 n) (let e : k - k ≡ 0 = omega arith in e))

-- ---- the walk over the due tasks

module _ (s : State) where
  -- what became of a task that was passed: nothing, or it came up and its bit tells it
  pub record CameUp (i : ℕ) (x : Answered TickReport) : Type 0 where
    pub was : state_of s.table i ≡ None
    pub rank : ℕ
    pub above : s.table.next ≤ rank
    pub is : view_of x.state i ≡ record { state = Some (fresh s.tick rank); ended = 0; scan = None }
    pub told : bit_at x.answer.released i ≡ 1

  pub record Stayed (i : ℕ) (x : Answered TickReport) : Type 0 where
    pub is : view_of x.state i ≡ view_of s i
    pub told : bit_at x.answer.released i ≡ 0

  abbrev pub Fate : ℕ → Answered TickReport → Type 0
  Fate i x = Stayed i x ⊎ CameUp i x

  -- after the tasks below k
  record SoFar (k : ℕ) (x : Answered TickReport) : Type 0 where
    tick : x.state.tick ≡ s.tick
    next : s.table.next ≤ x.state.table.next
    states : length x.state.table.states ≡ length s.table.states
    progress : length x.state.progress ≡ length s.progress
    watchdog : x.answer.watchdog ≡ None
    small : x.answer.released < 2 ^ k
    passed : (i : ℕ) → i < k → Fate i x
    to_come : (i : ℕ) → k ≤ i → view_of x.state i ≡ view_of s i

  begins_walk : SoFar 0 (record { state = s; answer = quiet })
  begins_walk = record {
    tick = refl;
    next = omega arith;
    states = refl;
    progress = refl;
    watchdog = refl;
    small = omega arith;
    passed = λ i l. absurd (omega arith);
    to_come = λ i l. refl;
  }

  -- the same below suc k if it is known of k
  up_to : (k : ℕ) (P : ℕ → Type 0) → ((i : ℕ) → i < k → P i) → P k → (i : ℕ) → i < suc k → P i
  up_to k P below here i l = elim (cases_eq i k) [ inl e ↦ subst P (sym e) here | inr ne ↦ below i (omega arith) ]

  -- nothing is told of task k, and no view changes
  passes : (k : ℕ) (x y : Answered TickReport) → SoFar k x → y.state.tick ≡ x.state.tick → y.state.table ≡ x.state.table → y.state.progress ≡ x.state.progress → y.answer.watchdog ≡ x.answer.watchdog → y.answer.released ≡ x.answer.released → SoFar (suc k) y
  passes k x y h tick table progress watchdog told = record {
    tick = tick ∙ h.tick;
    next = subst (λ (z : Table). s.table.next ≤ z.next) (sym table) h.next;
    states = ap (λ (z : Table). length z.states) table ∙ h.states;
    progress = ap (λ (z : List Progress). length z) progress ∙ h.progress;
    watchdog = watchdog ∙ h.watchdog;
    small = subst (λ m. m < 2 ^ suc k) (sym told) (wider x.answer.released k h.small);
    passed = up_to k (λ i. Fate i y) (λ i l. moved i (h.passed i l)) (inl (record { is = same k ∙ h.to_come k (omega arith); told = ap (λ m. bit_at m k) told ∙ bit_at_above x.answer.released k k h.small (omega arith) }));
    to_come = λ i l. (same i ∙ h.to_come i (omega arith));
  }
    where
      same : (i : ℕ) → view_of y.state i ≡ view_of x.state i
      same i = ap (λ (z : Table). view_at (state_of z i) (progress_of y.state i)) table ∙ ap (λ (z : List Progress). view_at (state_of x.state.table i) (slice_index_or z i no_progress)) progress

      moved : (i : ℕ) → Fate i x → Fate i y
      moved i (inl f) = inl (record { is = same i ∙ f.is; told = ap (λ m. bit_at m i) told ∙ f.told })
      moved i (inr f) = inr (record { was = f.was; rank = f.rank; above = f.above; is = same i ∙ f.is; told = ap (λ m. bit_at m i) told ∙ f.told })

  -- task k comes up
  comes_up : (k : ℕ) (x : Answered TickReport) → SoFar k x → k < length s.table.states → k < length s.progress → release_answer x.state.table k ≡ Released → SoFar (suc k) (after_release k x.answer (after_answer Released k x.state))
  comes_up k x h ls lp r = record {
    tick = h.tick;
    next = (let l = h.next in omega arith);
    states = length-set x.state.table.states k _ ∙ h.states;
    progress = length-set x.state.progress k _ ∙ h.progress;
    watchdog = h.watchdog;
    small = wide_sum x.answer.released k h.small;
    passed = up_to k (λ i. Fate i y) (λ i l. moved i l (h.passed i l)) (inr here);
    to_come = λ i l. (other i (omega arith) ∙ h.to_come i (omega arith));
  }
    where
      y : Answered TickReport
      y = after_release k x.answer (after_answer Released k x.state)

      other : (i : ℕ) → (i ≡ k → ⊥) → view_of y.state i ≡ view_of x.state i
      other i ne = other_view x.state.table.states x.state.progress k i _ _ ne

      moved : (i : ℕ) → i < k → Fate i x → Fate i y
      moved i l (inl f) = inl (record { is = other i (omega arith) ∙ f.is; told = bit_below x.answer.released k i l ∙ f.told })
      moved i l (inr f) = inr (record { was = f.was; rank = f.rank; above = f.above; is = other i (omega arith) ∙ f.is; told = bit_below x.answer.released k i l ∙ f.told })

      here : CameUp k y
      here = record {
        was = sym (ap (λ (v : TaskView). v.state) (h.to_come k (omega arith))) ∙ released_down x.state.table k r;
        rank = x.state.table.next;
        above = h.next;
        is = own_view x.state.table.states x.state.progress k _ _ (let e = h.states in omega arith) (let e = h.progress in omega arith) ∙ ap (λ (now : ℕ). record { state = Some (fresh now x.state.table.next); ended = 0; scan = None }) h.tick;
        told = bit_here x.answer.released k h.small;
      }

  by_answer : (k : ℕ) (x : Answered TickReport) (a : Release) → SoFar k x → k < length s.table.states → k < length s.progress → release_answer x.state.table k ≡ a → SoFar (suc k) (after_release k x.answer (after_answer a k x.state))
  by_answer k x Released h ls lp r = comes_up k x h ls lp r
  by_answer k x Overlap h ls lp r = passes k x _ h refl refl refl refl refl
  by_answer k x Inhibited h ls lp r = passes k x _ h refl refl refl refl refl

  one_task : (k : ℕ) (x : Answered TickReport) → SoFar k x → k < length s.table.states → k < length s.progress → SoFar (suc k) (release_if_due x k)
  one_task k x h ls lp =
      cond_both (due k x.state.tick x.state.table) (after_release k x.answer (release_task k x.state)) x (SoFar (suc k))
      (λ b. by_answer k x (release_answer x.state.table k) h ls lp refl) (λ b. passes k x x h refl refl refl refl refl)

  walk : (k n : ℕ) (x : Answered TickReport) → SoFar k x → k + n ≤ length s.table.states → k + n ≤ length s.progress → SoFar (k + n) (fold release_if_due x (range_with_len k n))
  walk k zero x h ls lp = subst (λ i. SoFar i x) (let e : k ≡ k + 0 = omega arith in e) h
  walk k (suc n) x h ls lp =
      let more : suc k ≡ k + 1 = omega arith in
      subst (λ i. SoFar i (fold release_if_due (release_if_due x k) (range_with_len (k + 1) n))) (let e : k + 1 + n ≡ k + suc n = omega arith in e)
      (walk (k + 1) n (release_if_due x k) (subst (λ i. SoFar i (release_if_due x k)) more (one_task k x h (omega arith) (omega arith))) (omega arith) (omega arith))

  pub record Walked (n : ℕ) (x : Answered TickReport) : Type 0 where
    pub tick : x.state.tick ≡ s.tick
    pub watchdog : x.answer.watchdog ≡ None
    pub fate : (i : ℕ) → i < n → Fate i x

  pub walked : (n : ℕ) → n ≤ length s.table.states → n ≤ length s.progress → Walked n (fold release_if_due (record { state = s; answer = quiet }) (range_with_len 0 n))
  walked n ls lp =
      let h = walk 0 n (record { state = s; answer = quiet }) begins_walk (omega arith) (omega arith) in
      record { tick = h.tick; watchdog = h.watchdog; fate = λ i l. h.passed i (omega arith) }

-- ---- the tick

-- what a tick makes of task k
pub record TickMakes (p : Project) (s : State) (x : Answered TickReport) (k : ℕ) : Type 0 where
  pub change : Change
  pub makes : Makes s Tick k change
  pub view : view_of x.state k ≡ changed change (view_of s k)
  pub counts : (c : Counted) → counted (audit_task (task s.table k) (programs_of s k)) k (seen p (after_tick x).answer) c ≡ counts_after change c
  pub begun : (books : List Book) (b : Option ProgramRungs) → begins k (after_tick x).answer books b ≡ begun_after change books b
  pub starts : is_task k (sync_start (after_tick x).answer) ≡ starts_copy change
  pub ends : is_task k (sync_end (after_tick x).answer) ≡ ends_copy change

-- the turn of task k
abbrev pub IsTurned : State → Table → ℕ → Change → Type 0
IsTurned s x k c = Makes s Tick k c × (view_at (state_of x k) (progress_of s k) ≡ changed c (view_of s k))

-- a task stays, or takes the next rank
pub data Turned (s : State) (x : Table) (k : ℕ) : Type 0 where
  NoTurn : IsTurned s x k Stays → Turned s x k
  Turn : IsTurned s x k (Rotates s.table.next) → Turned s x k

not_chosen : (s : State) (k : ℕ) (o : Option ℕ) → chosen s.table ≡ o → (o ≡ Some k → ⊥) → TakesTurn s Tick k → ⊥
not_chosen s k o c ne h = ne (sym c ∙ h.chosen)

module _ (p : Project) (s : State) (known : Known p s) (mode : s.mode ≡ Run) (k : ℕ) where
  still_open : (t : ℕ) → chosen s.table ≡ Some t → is_open (state_of s.table t) ≡ true → TakesTurn s Tick k → ⊥
  still_open t c o h =
      let e : t ≡ k = cc (c, h.chosen) in
      let f : true ≡ false → ⊥ = λ x. cc in
      f (sym o ∙ (ap (λ i. is_open (state_of s.table i)) e ∙ h.closed))

  turned_back : (t : ℕ) → chosen s.table ≡ Some t → is_open (state_of s.table t) ≡ false → (k ≡ t) ⊎ (k ≡ t → ⊥) → Turned s (to_back t s.table) k
  turned_back t c o (inl e) =
      Turn (
        (record { tick = refl; mode = mode; chosen = c ∙ ap (λ i. Some i) (sym e); closed = ap (λ i. is_open (state_of s.table i)) e ∙ o }, refl),
        subst (λ (i : ℕ). view_at (state_of (to_back t s.table) i) (progress_of s i) ≡ changed (Rotates s.table.next) (view_of s i)) (sym e)
            (ap (λ u. view_at u (progress_of s t)) (get_or-set_same s.table.states t _ None (chosen_known p s t known c).in_states)),
      )
  turned_back t c o (inr ne) = NoTurn (not_chosen s k (Some t) c (λ h. ne (cc h)), other_state s.table.states t k _ (progress_of s k) ne)

  by_open : (t : ℕ) → chosen s.table ≡ Some t → (b : Bool) → is_open (state_of s.table t) ≡ b → Turned s (if b then s.table else to_back t s.table) k
  by_open t c true o = NoTurn (still_open t c o, refl)
  by_open t c false o = turned_back t c o (cases_eq k t)

  by_chosen : (o : Option ℕ) → chosen s.table ≡ o → Turned s (unless_open o s.table) k
  by_chosen None c = NoTurn (not_chosen s k None c (λ e. cc e), refl)
  by_chosen (Some t) c = by_open t c (is_open (state_of s.table t)) refl

  pub turned : Turned s (rotate s.table) k
  turned = by_chosen (chosen s.table) refl

  abbrev s1 : State
  s1 = record s { tick = s.tick + 1; table = rotate s.table }

  -- ---- after the turn

  untold : (x : Answered TickReport) → x.answer.watchdog ≡ None → bit_at x.answer.released k ≡ 0 → (c : Counted) → counted (audit_task (task s.table k) (programs_of s k)) k (seen p (after_tick x).answer) c ≡ c
  untold x w b c =
      ap (λ o. counted (audit_task (task s.table k) (programs_of s k)) k (event.Tick x.answer.released x.answer.overlapped o) c) w
      ∙ ap (λ n. cond (nat_eq n 1) (released c) c) b

  told_up : (x : Answered TickReport) → x.answer.watchdog ≡ None → bit_at x.answer.released k ≡ 1 → (c : Counted) → counted (audit_task (task s.table k) (programs_of s k)) k (seen p (after_tick x).answer) c ≡ released c
  told_up x w b c =
      ap (λ o. counted (audit_task (task s.table k) (programs_of s k)) k (event.Tick x.answer.released x.answer.overlapped o) c) w
      ∙ ap (λ n. cond (nat_eq n 1) (released c) c) b

  next_grows : s.table.next ≤ (rotate s.table).next
  next_grows = go (chosen s.table)
    where
      go : (o : Option ℕ) → s.table.next ≤ (unless_open o s.table).next
      go None = omega arith
      go (Some t) = cond_both (is_open (state_of s.table t)) s.table (to_back t s.table) (λ (x : Table). s.table.next ≤ x.next) (λ b. omega arith) (λ b. omega arith)

  by_fate : (x : Answered TickReport) → x.answer.watchdog ≡ None → Turned s (rotate s.table) k → Fate s1 k x → TickMakes p s x k
  by_fate x w (NoTurn t) (inl f) = record { change = Stays; makes = t.0; view = f.is ∙ t.1; counts = untold x w f.told; begun = λ books b. refl; starts = refl; ends = refl }
  by_fate x w (NoTurn t) (inr f) = record {
    change = ComesUp (s.tick + 1) f.rank;
    makes = (sym (ap (λ (v : TaskView). v.state) t.1) ∙ f.was, record { start = refl; rank = (let a = f.above in let b = next_grows in omega arith) });
    view = f.is;
    counts = told_up x w f.told;
    begun = λ books b. refl;
    starts = refl;
    ends = refl;
  }
  by_fate x w (Turn t) (inl f) = record { change = Rotates s.table.next; makes = t.0; view = f.is ∙ t.1; counts = untold x w f.told; begun = λ books b. refl; starts = refl; ends = refl }
  by_fate x w (Turn t) (inr f) =
      let h = chosen_known p s k known t.0.0.chosen in
      let e : with_rank s.table.next (Some h.state) ≡ None = ap (with_rank s.table.next) (sym h.up) ∙ (sym (ap (λ (v : TaskView). v.state) t.1) ∙ f.was) in
      absurd (cc e)

  by_watchdogs : k < length p.tasks → (o : Option ℕ) → TickMakes p s (after_watchdogs s1 o) k
  by_watchdogs l (Some t) = record { change = GoesDown; makes = tt; view = all_down_view s1.table.states s1.progress k; counts = λ c. refl; begun = λ books b. refl; starts = refl; ends = refl }
  by_watchdogs l None =
      let n = length s1.table.defs in
      let a = known.sizes in
      let d : (rotate s.table).defs ≡ s.table.defs = (unless_open_keeps (chosen s.table) s.table).defs in
      let u : length (rotate s.table).states ≡ length s.table.states = (unless_open_keeps (chosen s.table) s.table).states in
      let many : n ≡ length p.tasks = ap (λ (xs : List TaskDef). length xs) (d ∙ a.same_tasks) in
      let w = walked s1 n (let e = a.states in omega arith) (let e = a.progresses in omega arith) in
      by_fate (release_due s1) w.watchdog turned (w.fate k (omega arith))

quiet_ticks : (p : Project) (s : State) (k : ℕ) → (s.mode ≡ Run → ⊥) → TickMakes p s (record { state = record s { tick = s.tick + 1 }; answer = quiet }) k
quiet_ticks p s k ne = record {
  change = Stays;
  makes = λ h. ne h.mode;
  view = refl;
  counts = λ c. ap (λ n. cond (nat_eq n 1) (released c) c) (bit_at-zero k);
  begun = λ books b. refl;
  starts = refl;
  ends = refl;
}

by_mode : (p : Project) (s : State) (known : Known p s) (k : ℕ) → k < length p.tasks → (m : Mode) → s.mode ≡ m → TickMakes p s (in_mode m (record s { tick = s.tick + 1 })) k
by_mode p s known k l Run e = by_watchdogs p s known e k l (expired (s.tick + 1) (rotate s.table))
by_mode p s known k l Program e = quiet_ticks p s k (λ r. (let f : Program ≡ Run → ⊥ = λ x. cc in f (sym e ∙ r)))
by_mode p s known k l Faulted e = quiet_ticks p s k (λ r. (let f : Faulted ≡ Run → ⊥ = λ x. cc in f (sym e ∙ r)))

pub at_tick : (p : Project) (s : State) (known : Known p s) (k : ℕ) → k < length p.tasks → Happens p s Tick k
at_tick p s known k l =
    let m = by_mode p s known k l s.mode refl in
    record { change = m.change; makes = m.makes; view = m.view; counts = λ c w. m.counts c; begun = m.begun; starts = m.starts; ends = m.ends }
