-- The walk over the due tasks, and the masks that it tells.
use Rattle.std.proofs.Common.{◌≡◌, ℕ, zero, suc, ◌+◌, ◌^◌, ◌≤◌, Bool, true, false, cond, List, length, Option, None, refl, sym, ◌∙◌, ap, subst, arith}
use Rattle.std.specs.Prelude.{fold, is_some, not, ◌&&◌, slice_index_or}
use Rattle.std.specs.List.{range_with_len}
use Rattle.std.proofs.lemmas.List.{get_or-set_other}
use Rattle.spec_tables.specs.declared.task.TaskDef.{TaskDef}
use Rattle.spec_tables.specs.declared.task.Release.TheVariants.{Released, Overlap, Inhibited}
use Rattle.spec_tables.specs.Tasks.{TaskState, no_task, task, is_up, due}
use Rattle.spec_machine.specs.declared.answer.TickReport.{TickReport}
use Rattle.spec_machine.specs.Releases.{after_answer}
use Rattle.spec_machine.specs.State.{State, Answered}
use Rattle.spec_machine.specs.Ticks.{quiet, after_release, release_if_due, release_due}
use Rattle.spec_laws.specs.TickReleases.{mask_below}

module _ (s : State) where
  -- who is due in the table, and allowed to come up
  abbrev pub is_allowed : ℕ → Bool
  is_allowed t = due t s.tick s.table && not (task s.table t).inhibited

  abbrev pub is_new : ℕ → Bool
  is_new t = is_allowed t && not (is_up s.table t)

  abbrev pub is_again : ℕ → Bool
  is_again t = is_allowed t && is_up s.table t

  -- after the tasks below k
  pub record SoFar (k : ℕ) (x : Answered TickReport) : Type 0 where
    pub tick : x.state.tick ≡ s.tick
    pub mode : x.state.mode ≡ s.mode
    pub since : x.state.table.run_since ≡ s.table.run_since
    pub defs : x.state.table.defs ≡ s.table.defs
    pub to_come : (i : ℕ) → k ≤ i → is_up x.state.table i ≡ is_up s.table i
    pub watchdog : x.answer.watchdog ≡ None
    pub released : x.answer.released ≡ mask_below is_new k
    pub overlapped : x.answer.overlapped ≡ mask_below is_again k

  -- one task more, by what it adds to the masks
  record Adds (k : ℕ) (x y : Answered TickReport) (up over : Bool) : Type 0 where
    tick : y.state.tick ≡ x.state.tick
    mode : y.state.mode ≡ x.state.mode
    since : y.state.table.run_since ≡ x.state.table.run_since
    defs : y.state.table.defs ≡ x.state.table.defs
    to_come : (i : ℕ) → suc k ≤ i → is_up y.state.table i ≡ is_up x.state.table i
    watchdog : y.answer.watchdog ≡ x.answer.watchdog
    released : y.answer.released ≡ x.answer.released + cond up (2 ^ k) 0
    overlapped : y.answer.overlapped ≡ x.answer.overlapped + cond over (2 ^ k) 0

  one_more : (k : ℕ) (x y : Answered TickReport) (up over : Bool) → SoFar k x → is_new k ≡ up → is_again k ≡ over → Adds k x y up over → SoFar (suc k) y
  one_more k x y up over h u o a = record {
    tick = a.tick ∙ h.tick;
    mode = a.mode ∙ h.mode;
    since = a.since ∙ h.since;
    defs = a.defs ∙ h.defs;
    to_come = λ i l. (a.to_come i l ∙ h.to_come i (omega arith));
    watchdog = a.watchdog ∙ h.watchdog;
    released = a.released ∙ (ap (λ n. n + cond up (2 ^ k) 0) h.released ∙ ap (λ b. mask_below is_new k + cond b (2 ^ k) 0) (sym u));
    overlapped = a.overlapped ∙ (ap (λ n. n + cond over (2 ^ k) 0) h.overlapped ∙ ap (λ b. mask_below is_again k + cond b (2 ^ k) 0) (sym o));
  }

  nothing : (k : ℕ) (x : Answered TickReport) → Adds k x x false false
  nothing k x = record { tick = refl; mode = refl; since = refl; defs = refl; to_come = λ i l. refl; watchdog = refl; released = omega arith; overlapped = omega arith }

  inhibited_adds : (k : ℕ) (x : Answered TickReport) → Adds k x (after_release k x.answer (after_answer Inhibited k x.state)) false false
  inhibited_adds k x = record { tick = refl; mode = refl; since = refl; defs = refl; to_come = λ i l. refl; watchdog = refl; released = omega arith; overlapped = omega arith }

  overlap_adds : (k : ℕ) (x : Answered TickReport) → Adds k x (after_release k x.answer (after_answer Overlap k x.state)) false true
  overlap_adds k x = record { tick = refl; mode = refl; since = refl; defs = refl; to_come = λ i l. refl; watchdog = refl; released = omega arith; overlapped = refl }

  release_adds : (k : ℕ) (x : Answered TickReport) → Adds k x (after_release k x.answer (after_answer Released k x.state)) true false
  release_adds k x = record {
    tick = refl;
    mode = refl;
    since = refl;
    defs = refl;
    to_come = λ i l. ap (λ (o : Option TaskState). is_some o) (get_or-set_other x.state.table.states k i _ None (omega arith));
    watchdog = refl;
    released = refl;
    overlapped = omega arith;
  }

  by_tests : (k : ℕ) (x : Answered TickReport) (d inhibited up : Bool) → SoFar k x → is_new k ≡ ((d && not inhibited) && not up) → is_again k ≡ ((d && not inhibited) && up) → SoFar (suc k) (cond d (after_release k x.answer (after_answer (cond inhibited Inhibited (cond up Overlap Released)) k x.state)) x)
  by_tests k x false inhibited up h u o = one_more k x x false false h u o (nothing k x)
  by_tests k x true true up h u o = one_more k x _ false false h u o (inhibited_adds k x)
  by_tests k x true false true h u o = one_more k x _ false true h u o (overlap_adds k x)
  by_tests k x true false false h u o = one_more k x _ true false h u o (release_adds k x)

  -- what the table tells of task k is as it was
  module _ (k : ℕ) (x : Answered TickReport) (h : SoFar k x) where
    same_task : task x.state.table k ≡ task s.table k
    same_task = ap (λ (ds : List TaskDef). slice_index_or ds k no_task) h.defs

    same_due : due k x.state.tick x.state.table ≡ due k s.tick s.table
    same_due =
        ap (λ n. due k n x.state.table) h.tick
        ∙ (ap (λ n. due k s.tick (record x.state.table { run_since = n })) h.since ∙ ap (λ (ds : List TaskDef). due k s.tick (record s.table { defs = ds })) h.defs)

    same_allowed : is_allowed k ≡ (due k x.state.tick x.state.table && not (task x.state.table k).inhibited)
    same_allowed =
        sym (ap (λ b. b && not (task x.state.table k).inhibited) same_due ∙ ap (λ (d : TaskDef). due k s.tick s.table && not d.inhibited) same_task)

    one_task : SoFar (suc k) (release_if_due x k)
    one_task =
        by_tests k x (due k x.state.tick x.state.table) (task x.state.table k).inhibited (is_up x.state.table k) h
        (ap (λ b. b && not (is_up s.table k)) same_allowed ∙ ap (λ b. (due k x.state.tick x.state.table && not (task x.state.table k).inhibited) && not b) (sym (h.to_come k (omega arith))))
        (ap (λ b. b && is_up s.table k) same_allowed ∙ ap (λ b. (due k x.state.tick x.state.table && not (task x.state.table k).inhibited) && b) (sym (h.to_come k (omega arith))))

  walk : (k n : ℕ) (x : Answered TickReport) → SoFar k x → SoFar (k + n) (fold release_if_due x (range_with_len k n))
  walk k zero x h = subst (λ i. SoFar i x) (let e : k ≡ k + 0 = omega arith in e) h
  walk k (suc n) x h =
      let more : suc k ≡ k + 1 = omega arith in
      subst (λ i. SoFar i (fold release_if_due (release_if_due x k) (range_with_len (k + 1) n))) (let e : k + 1 + n ≡ k + suc n = omega arith in e)
      (walk (k + 1) n (release_if_due x k) (subst (λ i. SoFar i (release_if_due x k)) more (one_task k x h)))

  -- after all of them
  pub walked : SoFar (length s.table.defs) (release_due s)
  walked =
      subst (λ i. SoFar i (release_due s)) (let e : 0 + length s.table.defs ≡ length s.table.defs = omega arith in e)
      (walk 0 (length s.table.defs) (record { state = s; answer = quiet }) (record { tick = refl; mode = refl; since = refl; defs = refl; to_come = λ i l. refl; watchdog = refl; released = refl; overlapped = refl }))
