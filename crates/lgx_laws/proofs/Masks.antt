-- The masks that a tick tells, made task by task.
use Rattle.std.proofs.Common.{◌≡◌, ℕ, zero, suc, ◌+◌, ◌<◌, ◌^◌, Bool, true, false, List, length, Option, None, refl, sym, ◌∙◌, ap, arith}
use Rattle.std.specs.Prelude.{if◌then◌else◌, ◌&&◌, not, nat_eq, slice_index_or}
use Rattle.std.specs.Bool.{beq as agree}
use Rattle.std.proofs.Math.Nat.{pow-le-pow_right}
use Rattle.spec_tables.specs.declared.task.TaskDef.{TaskDef}
use Rattle.spec_tables.specs.Tasks.{no_task}
use Rattle.spec_schedule.specs.declared.trace.TraceEvent.{TraceEvent}
use Rattle.spec_schedule.specs.declared.trace.TraceEvent.TheVariants.{Tick}
use Rattle.spec_schedule.specs.Counting.{Counted, uncounted, CountedEvent, Numbers}
use Rattle.spec_laws.specs.CountedBack.{ticks_in_run}
use Rattle.spec_laws.specs.TickReleases.{is_due, mask_below, comes_up, overlaps, keeps_releases}
use Rattle.lgx_audit.specs.declared.counts.Count.{Count}
use Rattle.lgx_audit.specs.Along.{no_count, Shown}
use Rattle.lgx_laws.proofs.ScansAt.{any_default}

module _ (tasks : List TaskDef) (counts : List Count) (run : Option ℕ) (up : Bool) where
  -- who is due, and up or down as is asked
  abbrev pub due_and : ℕ → Bool
  due_and t = is_due (slice_index_or tasks t no_task) run && agree (slice_index_or counts t no_count).up up

  pub due_at : (d : TaskDef) (t : ℕ) (b : Bool) → t < length tasks → b ≡ (is_due (slice_index_or tasks t d) run && agree (slice_index_or counts t no_count).up up) → b ≡ due_and t
  due_at d t b l is = is ∙ ap (λ (k : TaskDef). is_due k run && agree (slice_index_or counts t no_count).up up) (any_default tasks t d no_task l)

-- one task more
pub mask_more : (test : ℕ → Bool) (n mask bit : ℕ) (b : Bool) → mask ≡ mask_below test n → b ≡ test n → bit ≡ (if b then 2 ^ n else 0) → mask + bit ≡ mask_below test (n + 1)
mask_more test n mask bit b is same made =
    ap (λ m. m + bit) is
    ∙ (ap (λ m. mask_below test n + m) (made ∙ ap (λ c. if c then 2 ^ n else 0) same) ∙ ap (mask_below test) (let z : suc n ≡ n + 1 = omega arith in z))

doubled : (n : ℕ) → 2 ^ suc n ≡ 2 ^ n + 2 ^ n
doubled n = omega arith

-- it has no bit of a later task
mask_small : (test : ℕ → Bool) (n : ℕ) → mask_below test n < 2 ^ n
mask_small test zero = omega arith
mask_small test (suc n) = go (mask_small test n) (test n)
  where
    go : mask_below test n < 2 ^ n → (b : Bool) → mask_below test n + (if b then 2 ^ n else 0) < 2 ^ suc n
    go h true = let d = doubled n in omega arith
    go h false = let d = doubled n in omega arith

-- and so 32 tasks have room
pub mask_fits : (test : ℕ → Bool) (n : ℕ) → n < 32 → mask_below test (n + 1) < 4294967296
mask_fits test n l =
    let small = mask_small test (n + 1) in
    let most = pow-le-pow_right {n = 2} (omega arith) {i = n + 1} {j = 32} (omega arith) in
    omega arith

pub mask_same : (f g : ℕ → Bool) (n : ℕ) → ((k : ℕ) → k < n → f k ≡ g k) → mask_below f n ≡ mask_below g n
mask_same f g zero h = refl
mask_same f g (suc n) h =
    ap (λ m. m + (if f n then 2 ^ n else 0)) (mask_same f g n (λ k l. h k (omega arith)))
    ∙ ap (λ b. mask_below g n + (if b then 2 ^ n else 0)) (h n (omega arith))

agree_false : (b : Bool) → agree b false ≡ not b
agree_false true = refl
agree_false false = refl

agree_true : (b : Bool) → agree b true ≡ b
agree_true true = refl
agree_true false = refl

module _ (tasks : List TaskDef) (counts : List Count) (cs : List Counted) (ns : List Numbers) (past : List CountedEvent) (run : Option ℕ) (shown : Shown counts cs) (many : length counts ≡ length tasks) (is_run : run ≡ ticks_in_run past) where
  due_same : (up : Bool) (t : ℕ) → t < length cs → due_and tasks counts run up t ≡ (is_due (slice_index_or tasks t no_task) (ticks_in_run past) && agree (slice_index_or cs t uncounted).up up)
  due_same up t l =
      ap (λ (o : Option ℕ). is_due (slice_index_or tasks t no_task) o && agree (slice_index_or counts t no_count).up up) is_run
      ∙ ap (λ (c : Count). is_due (slice_index_or tasks t no_task) (ticks_in_run past) && agree c.up up) (shown.each t l)

  -- of a tick that tells no watchdog
  pub masks_at : (e : TraceEvent) (r o : ℕ) (w : Option ℕ) (coming again : ℕ) → e ≡ Tick r o w → w ≡ None → coming ≡ mask_below (due_and tasks counts run false) (length tasks) → again ≡ mask_below (due_and tasks counts run true) (length tasks) → (nat_eq r coming && nat_eq o again) ≡ keeps_releases tasks past (record { tasks = cs; programs = ns; event = e })
  masks_at e r o w coming again is none up_is over_is =
      let m = shown.many in
      let x : CountedEvent = record { tasks = cs; programs = ns; event = e } in
      let ups : coming ≡ mask_below (comes_up tasks past x) (length tasks) =
      up_is ∙ mask_same _ _ (length tasks) (λ k l. due_same false k (omega arith) ∙ ap (λ b. is_due (slice_index_or tasks k no_task) (ticks_in_run past) && b) (agree_false (slice_index_or cs k uncounted).up)) in
      let overs : again ≡ mask_below (overlaps tasks past x) (length tasks) =
      over_is ∙ mask_same _ _ (length tasks) (λ k l. due_same true k (omega arith) ∙ ap (λ b. is_due (slice_index_or tasks k no_task) (ticks_in_run past) && b) (agree_true (slice_index_or cs k uncounted).up)) in
      ap (λ n. nat_eq r n && nat_eq o again) ups
      ∙ (ap (λ n. nat_eq r (mask_below (comes_up tasks past x) (length tasks)) && nat_eq o n) overs
      ∙ ap (λ (d : TraceEvent). keeps_releases tasks past (record { tasks = cs; programs = ns; event = d })) (sym (is ∙ ap (λ (v : Option ℕ). Tick r o v) none)))
