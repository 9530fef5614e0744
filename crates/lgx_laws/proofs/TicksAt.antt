-- The tests of the laws of watchdogs and releases by what is kept.
use Rattle.std.proofs.Common.{◌≡◌, ℕ, zero, suc, ◌+◌, ◌<◌, ◌≤◌, Bool, true, false, List, length, refl, sym, ◌∙◌, ap, arith, nat_le}
use Rattle.std.specs.Prelude.{slice_index_or, not, ◌&&◌}
use Rattle.std.specs.List.{list_all, range_with_len}
use Rattle.std.proofs.lemmas.Bool.{and_from, and_left, and_right, not_from_true, not_from_false}
use Rattle.spec_tables.specs.declared.task.TaskDef.{TaskDef}
use Rattle.spec_tables.specs.Tasks.{no_task}
use Rattle.spec_schedule.specs.declared.trace.TraceEvent.{TraceEvent}
use Rattle.spec_schedule.specs.Counting.{Counted, uncounted, CountedEvent, Numbers}
use Rattle.spec_laws.specs.Watchdogs.{runs_out, none_below}
use Rattle.lgx_audit.specs.declared.counts.Count.{Count}
use Rattle.lgx_audit.specs.Along.{no_count, Shown}
use Rattle.lgx_laws.specs.declared.since.Since.{Since}
use Rattle.lgx_laws.specs.Kept.{no_since, Kept}
use Rattle.lgx_laws.proofs.ScansAt.{any_default}

all_range : (f : ℕ → Bool) (i n : ℕ) → ((k : ℕ) → k < n → f (i + k) ≡ true) → list_all f (range_with_len i n) ≡ true
all_range f i zero h = refl
all_range f i (suc n) h =
    and_from (f i) _ (ap f (let z : i ≡ i + 0 = omega arith in z) ∙ h 0 (omega arith))
    (all_range f (i + 1) n (λ k l. ap f (let z : i + 1 + k ≡ i + suc k = omega arith in z) ∙ h (suc k) (omega arith)))

fails_range : (f : ℕ → Bool) (i n k : ℕ) → k < n → f (i + k) ≡ false → list_all f (range_with_len i n) ≡ false
fails_range f i zero k l h = absurd (omega arith)
fails_range f i (suc n) zero l h = and_left (f i) _ (ap f (let z : i ≡ i + 0 = omega arith in z) ∙ h)
fails_range f i (suc n) (suc k) l h = and_right (f i) _ (fails_range f (i + 1) n k (omega arith) (ap f (let z : i + 1 + k ≡ i + suc k = omega arith in z) ∙ h))

module _ (tasks : List TaskDef) (counts : List Count) (kept : List Since) (cs : List Counted) (ns : List Numbers) (past : List CountedEvent) (e : TraceEvent) (shown : Shown counts cs) (held : Kept kept cs past) where
  abbrev here : CountedEvent
  here = record { tasks = cs; programs = ns; event = e }

  -- whether a task runs out
  abbrev pub out : ℕ → Bool
  out t = (slice_index_or counts t no_count).up && nat_le (slice_index_or tasks t no_task).watchdog ((slice_index_or kept t no_since).ticks + 1)

  pub out_is : (t : ℕ) → t < length cs → out t ≡ runs_out tasks past here t
  out_is t l =
      ap (λ (c : Count). c.up && nat_le (slice_index_or tasks t no_task).watchdog ((slice_index_or kept t no_since).ticks + 1)) (shown.each t l)
      ∙ ap (λ (s : Since). (slice_index_or cs t uncounted).up && nat_le (slice_index_or tasks t no_task).watchdog (s.ticks + 1)) (held.each t l)

  pub out_from : (d : TaskDef) (t : ℕ) → t < length tasks → ((slice_index_or counts t no_count).up && nat_le (slice_index_or tasks t d).watchdog ((slice_index_or kept t no_since).ticks + 1)) ≡ true → out t ≡ true
  out_from d t l h =
      ap (λ (k : TaskDef). (slice_index_or counts t no_count).up && nat_le k.watchdog ((slice_index_or kept t no_since).ticks + 1)) (any_default tasks t no_task d l) ∙ h

  pub none_out : (n : ℕ) → n ≤ length cs → ((k : ℕ) → k < n → out k ≡ false) → none_below tasks past here n ≡ true
  none_out n few h =
      all_range (λ t. not (runs_out tasks past here t)) 0 n (λ k l.
      ap (λ i. not (runs_out tasks past here i)) (let z : 0 + k ≡ k = omega arith in z) ∙ not_from_false (runs_out tasks past here k) (sym (out_is k (omega arith)) ∙ h k l))

  pub some_out : (n k : ℕ) → n ≤ length cs → k < n → out k ≡ true → none_below tasks past here n ≡ false
  some_out n k few l h =
      fails_range (λ t. not (runs_out tasks past here t)) 0 n k l
      (ap (λ i. not (runs_out tasks past here i)) (let z : 0 + k ≡ k = omega arith in z) ∙ not_from_true (runs_out tasks past here k) (sym (out_is k (omega arith)) ∙ h))
