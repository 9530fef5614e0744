-- The counts that the audit keeps are those of the definitions, task by task.
use Rattle.std.proofs.Common.{◌≡◌, ℕ, ◌+◌, ◌<◌, Bool, true, false, List, length, refl, sym, ◌∙◌, ap, arith}
use Rattle.std.specs.Prelude.{slice_index_or, ◌&&◌, replicate, ◌≤◌, map}
use Rattle.std.proofs.lemmas.List.{length-map, length-replicate, get_or-replicate}
use Rattle.std.specs.List.{list_any}
use Rattle.std.proofs.lemmas.Bool.{false_from_ne_true, false≢true}
use Rattle.lgx_audit.specs.declared.counts.Count.{Count}
use Rattle.spec_schedule.specs.declared.trace.AuditTask.{AuditTask}
use Rattle.spec_schedule.specs.declared.trace.TraceEvent.{TraceEvent}
use Rattle.spec_schedule.specs.Counting.{Counted, uncounted, counted, counted_all, counted_tasks}
use Rattle.spec_schedule.specs.Legal.{no_task}
use Rattle.lgx_audit.specs.Along.{shown, no_count, Shown}
use Rattle.spec_legal.proofs.CountedLists.{counts_length, count_at, some_passes, passes_some, all_uncounted}

pub all_shown : (ds : List AuditTask) (e : TraceEvent) (old new : List Count) (cs : List Counted) → length old ≡ length ds → length new ≡ length old → Shown old cs → ((k : ℕ) → k < length ds → (x : Counted) → slice_index_or old k no_count ≡ shown x → slice_index_or new k no_count ≡ shown (counted (slice_index_or ds k no_task) k e x)) → Shown new (counted_all ds e cs)
all_shown ds e old new cs many same h each =
    let l = h.many in
    let long = counts_length 0 ds e cs (omega arith) in
    record {
      many = same ∙ many ∙ sym long;
      each = λ t within.
          (let lt : t < length ds = omega arith in
          each t lt (slice_index_or cs t uncounted) (h.each t (omega arith))
          ∙ ap shown (ap (λ n. counted (slice_index_or ds t no_task) n e (slice_index_or cs t uncounted)) (let z : t ≡ 0 + t = omega arith in z) ∙ sym (count_at 0 ds e cs t (omega arith) lt)));
    }

module _ (f : AuditTask → Bool) (ds : List AuditTask) (counts : List Count) (cs : List Counted) (h : Shown counts cs) (many : length counts ≡ length ds) where
  same_up : (t : ℕ) → t < length ds → (slice_index_or counts t no_count).up ≡ (slice_index_or cs t uncounted).up
  same_up t within = ap (λ (c : Count). c.up) (h.each t (let l = h.many in omega arith))

  -- some task is up that passes
  pub any_here : (t : ℕ) → t < length ds → ((slice_index_or counts t no_count).up && f (slice_index_or ds t no_task)) ≡ true → list_any (λ u. u.counts.up && f u.task) (counted_tasks ds cs) ≡ true
  any_here t within up =
      passes_some (λ u. u.counts.up && f u.task) 0 ds cs t (let l = h.many in omega arith) within
      (ap (λ b. b && f (slice_index_or ds t no_task)) (sym (same_up t within)) ∙ up)

  -- none is
  pub any_nowhere : ((t : ℕ) → t < length ds → ((slice_index_or counts t no_count).up && f (slice_index_or ds t no_task)) ≡ false) → list_any (λ u. u.counts.up && f u.task) (counted_tasks ds cs) ≡ false
  any_nowhere none = false_from_ne_true _ (λ any.
      let s = some_passes (λ u. u.counts.up && f u.task) 0 ds cs any in
      false≢true (sym (none s.place s.within) ∙ (ap (λ b. b && f (slice_index_or ds s.place no_task)) (same_up s.place s.within) ∙ s.passes)))

-- at the start
pub fresh : (ds : List AuditTask) (xs : List Count) → xs ≡ replicate (length ds) no_count → Shown xs (map (λ d. uncounted) ds) × (length xs ≡ length ds) × ((t : ℕ) → t < length xs → (slice_index_or xs t no_count).regions ≤ 0) × ((t : ℕ) → t < length xs → (slice_index_or xs t no_count).downs ≤ 0) × (true ≡ true)
fresh ds xs is =
    let long : length xs ≡ length ds = ap length is ∙ length-replicate (length ds) no_count in
    let at : (t : ℕ) → t < length ds → slice_index_or xs t no_count ≡ no_count = λ t within. ap (λ (ys : List Count). slice_index_or ys t no_count) is ∙ get_or-replicate (length ds) t no_count no_count within in (
      record {
        many = long ∙ sym (length-map ds (λ (d : AuditTask). uncounted));
        each = λ t within. (let m = length-map ds (λ (d : AuditTask). uncounted) in at t (omega arith) ∙ ap shown (sym (all_uncounted ds t)));
      },
      long,
      (λ t within. let e = ap (λ (c : Count). c.regions) (at t (omega arith)) in omega arith),
      (λ t within. let e = ap (λ (c : Count). c.downs) (at t (omega arith)) in omega arith),
      refl,
    )
