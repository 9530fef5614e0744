-- The walk over the due tasks: after the tasks below k, the report's masks are below 2 ^ k, and the faults that were added are
-- those of its overlaps.
use Rattle.std.proofs.Common.{◌≡◌, ℕ, ◌+◌, ◌-◌, ◌*◌, ◌^◌, ◌<◌, zero, suc, true, List, [], ◌∷◌, ◌++◌, length, map, Option, Some, None, refl, sym, ◌∙◌, ap, subst, arith}
use Rattle.std.specs.Prelude.{fold, nat_eq, if◌then◌else◌}
use Rattle.std.specs.Int.{bit_at}
use Rattle.std.specs.List.{range_with_len}
use Rattle.std.proofs.Math.Nat.{two-pow-succ}
use Rattle.std.proofs.lemmas.Bool.{and_parts, cond_both}
use Rattle.std.proofs.lemmas.List.{append-nil, append_assoc}
use Rattle.std.proofs.lemmas.Nat.Bits.{bit_at-zero, bit_at_above, bit_at_cat_low, bit_at_cat_high}
use Rattle.spec_tables.specs.declared.fault.TheConstants.{WATCHDOG, PERIODIC_OVERLAP}
use Rattle.spec_tables.specs.declared.fault.Fault.{Fault}
use Rattle.spec_tables.specs.declared.fault.Severity.TheVariants.{Minor, Major}
use Rattle.spec_tables.specs.declared.task.TaskDef.{TaskDef}
use Rattle.spec_tables.specs.declared.task.TaskKind.{TaskKind}
use Rattle.spec_tables.specs.declared.task.TaskKind.TheVariants.{Continuous, Periodic, Event}
use Rattle.spec_tables.specs.declared.task.Release.{Release}
use Rattle.spec_tables.specs.declared.task.Release.TheVariants.{Released, Overlap, Inhibited}
use Rattle.spec_tables.specs.Tasks.{Table, task, due, divides_by_period, release_answer, chosen, unless_open, rotate, is_open, state_of, to_back, expired}
use Rattle.spec_machine.specs.declared.answer.TickReport.{TickReport}
use Rattle.spec_machine.specs.declared.reply.Mode.{Mode}
use Rattle.spec_machine.specs.declared.reply.Mode.TheVariants.{Program, Run, Faulted}
use Rattle.spec_machine.specs.State.{State, Answered}
use Rattle.spec_machine.specs.Releases.{task_fault, overlap_code, after_answer, release_task}
use Rattle.spec_machine.specs.Ticks.{quiet, after_release, release_if_due, after_watchdogs, in_run, in_mode, tick}
use Rattle.spec_machine.specs.TickLaws.{tasks_in, watchdog_fault, report_faults, TicksTellFaults, MasksAreOfTasks, TicksKeepTasks}

-- ---- masks

-- masks that agree below n have the same tasks there
same_tasks : (m m' n : ℕ) → ((i : ℕ) → i < n → bit_at m i ≡ bit_at m' i) → tasks_in m n ≡ tasks_in m' n
same_tasks m m' zero h = refl
same_tasks m m' (suc n) h =
    ap (λ ts. ts ++ (if nat_eq (bit_at m n) 1 then n ∷ [] else [])) (same_tasks m m' n (λ i l. h i (omega (arith, l))))
    ∙ ap (λ b. tasks_in m' n ++ (if nat_eq b 1 then n ∷ [] else [])) (h n (omega arith))

-- the bit of task k is added to a mask of the tasks below it
bit_added : (m k : ℕ) → m < 2 ^ k → tasks_in (m + 2 ^ k) (suc k) ≡ tasks_in m k ++ k ∷ []
bit_added m k l =
    ap (λ ts. ts ++ (if nat_eq (bit_at (m + 2 ^ k) k) 1 then k ∷ [] else [])) (same_tasks (m + 2 ^ k) m k (λ i s. low i s))
    ∙ ap (λ b. tasks_in m k ++ (if nat_eq b 1 then k ∷ [] else [])) high
  where
    sum : m + 2 ^ k ≡ 1 * 2 ^ k + m
    sum = omega arith

    low : (i : ℕ) → i < k → bit_at (m + 2 ^ k) i ≡ bit_at m i
    low i s = ap (λ n. bit_at n i) sum ∙ bit_at_cat_low 1 k m i s

    none : k - k ≡ 0
    none = omega arith

    high : bit_at (m + 2 ^ k) k ≡ 1
    high = ap (λ n. bit_at n k) sum ∙ (bit_at_cat_high 1 k m k l (omega arith) ∙ ap (λ n. bit_at 1 n) none)

-- a mask of the tasks below k has no bit of task k
none_added : (m k : ℕ) → m < 2 ^ k → tasks_in m (suc k) ≡ tasks_in m k
none_added m k l = ap (λ b. tasks_in m k ++ (if nat_eq b 1 then k ∷ [] else [])) (bit_at_above m k k l (omega arith)) ∙ append-nil (tasks_in m k)

pub wider : (m k : ℕ) → m < 2 ^ k → m < 2 ^ suc k
wider m k l = let e = two-pow-succ k in omega arith

pub wide_sum : (m k : ℕ) → m < 2 ^ k → m + 2 ^ k < 2 ^ suc k
wide_sum m k l = let e = two-pow-succ k in omega arith

-- ---- the walk

-- after the tasks below k
record IsSoFar (s : State) (k : ℕ) (x : Answered TickReport) : Type 0 where
  tick : x.state.tick ≡ s.tick
  defs : x.state.table.defs ≡ s.table.defs
  watchdog : x.answer.watchdog ≡ None
  released : x.answer.released < 2 ^ k
  overlapped : x.answer.overlapped < 2 ^ k
  faults : x.state.faults ≡ s.faults ++ map (task_fault s Minor PERIODIC_OVERLAP) (tasks_in x.answer.overlapped k)

stays : (s : State) (k : ℕ) (x : Answered TickReport) → IsSoFar s k x → IsSoFar s (suc k) x
stays s k x h = record {
  tick = h.tick;
  defs = h.defs;
  watchdog = h.watchdog;
  released = wider x.answer.released k h.released;
  overlapped = wider x.answer.overlapped k h.overlapped;
  faults = h.faults ∙ ap (λ ts. s.faults ++ map (task_fault s Minor PERIODIC_OVERLAP) ts) (sym (none_added x.answer.overlapped k h.overlapped));
}

-- what is due is periodic
due_code : (since : ℕ) (kind : TaskKind) → divides_by_period since kind ≡ true → overlap_code kind ≡ PERIODIC_OVERLAP
due_code since Continuous h = absurd (cc h)
due_code since (Periodic n) h = refl
due_code since Event h = absurd (cc h)

map_last : (f : ℕ → Fault) (ts : List ℕ) (k : ℕ) → map f (ts ++ k ∷ []) ≡ map f ts ++ f k ∷ []
map_last f [] k = refl
map_last f (t ∷ ts) k = ap (λ fs. f t ∷ fs) (map_last f ts k)

overlaps : (s : State) (k : ℕ) (x : Answered TickReport) → IsSoFar s k x → overlap_code (task x.state.table k).kind ≡ PERIODIC_OVERLAP → IsSoFar s (suc k) (after_release k x.answer (after_answer Overlap k x.state))
overlaps s k x h code = record {
  tick = h.tick;
  defs = h.defs;
  watchdog = h.watchdog;
  released = wider x.answer.released k h.released;
  overlapped = wide_sum x.answer.overlapped k h.overlapped;
  faults =
      ap (λ fs. fs ++ task_fault x.state Minor (overlap_code (task x.state.table k).kind) k ∷ []) h.faults
      ∙ (ap (λ c. (s.faults ++ map (task_fault s Minor PERIODIC_OVERLAP) (tasks_in x.answer.overlapped k)) ++ task_fault x.state Minor c k ∷ []) code
      ∙ (ap (λ now. (s.faults ++ map (task_fault s Minor PERIODIC_OVERLAP) (tasks_in x.answer.overlapped k)) ++ task_fault (record s { tick = now }) Minor PERIODIC_OVERLAP k ∷ []) h.tick
      ∙ (append_assoc s.faults (map (task_fault s Minor PERIODIC_OVERLAP) (tasks_in x.answer.overlapped k)) (task_fault s Minor PERIODIC_OVERLAP k ∷ [])
      ∙ ap (λ fs. s.faults ++ fs) (sym (map_last (task_fault s Minor PERIODIC_OVERLAP) (tasks_in x.answer.overlapped k) k) ∙ ap (λ ts. map (task_fault s Minor PERIODIC_OVERLAP) ts) (sym (bit_added x.answer.overlapped k h.overlapped))))));
}

releases : (s : State) (k : ℕ) (x : Answered TickReport) → IsSoFar s k x → IsSoFar s (suc k) (after_release k x.answer (after_answer Released k x.state))
releases s k x h = let y = stays s k x h in record {
  tick = h.tick;
  defs = h.defs;
  watchdog = h.watchdog;
  released = wide_sum x.answer.released k h.released;
  overlapped = y.overlapped;
  faults = y.faults;
}

by_answer : (s : State) (k : ℕ) (x : Answered TickReport) (a : Release) → IsSoFar s k x → overlap_code (task x.state.table k).kind ≡ PERIODIC_OVERLAP → IsSoFar s (suc k) (after_release k x.answer (after_answer a k x.state))
by_answer s k x Released h code = releases s k x h
by_answer s k x Overlap h code = overlaps s k x h code
by_answer s k x Inhibited h code = stays s k x h

one_task : (s : State) (k : ℕ) (x : Answered TickReport) → IsSoFar s k x → IsSoFar s (suc k) (release_if_due x k)
one_task s k x h =
    cond_both (due k x.state.tick x.state.table) (after_release k x.answer (release_task k x.state)) x (IsSoFar s (suc k))
    (λ q. by_answer s k x (release_answer x.state.table k) h (due_code _ (task x.state.table k).kind (and_parts _ _ q).1)) (λ q. stays s k x h)

walk : (s : State) (k n : ℕ) (x : Answered TickReport) → IsSoFar s k x → IsSoFar s (k + n) (fold release_if_due x (range_with_len k n))
walk s k zero x h = subst (λ i. IsSoFar s i x) (let e : k ≡ k + 0 = omega arith in e) h
walk s k (suc n) x h =
    let more : suc k ≡ k + 1 = omega arith in
    subst (λ i. IsSoFar s i (fold release_if_due (release_if_due x k) (range_with_len (k + 1) n))) (let e : k + 1 + n ≡ k + suc n = omega arith in e)
    (walk s (k + 1) n (release_if_due x k) (subst (λ i. IsSoFar s i (release_if_due x k)) more (one_task s k x h)))

-- ---- the tick

-- what a tick leaves of a table of these tasks and of these faults
record IsTold (ds : List TaskDef) (fs : List Fault) (x : Answered TickReport) : Type 0 where
  defs : x.state.table.defs ≡ ds
  released : x.answer.released < 2 ^ length ds
  overlapped : x.answer.overlapped < 2 ^ length ds
  faults : x.state.faults ≡ fs ++ report_faults x.state x.answer

none_in : (n : ℕ) → tasks_in 0 n ≡ []
none_in zero = refl
none_in (suc n) = ap (λ ts. ts ++ (if nat_eq (bit_at 0 n) 1 then n ∷ [] else [])) (none_in n) ∙ ap (λ b. if nat_eq b 1 then n ∷ [] else []) (bit_at-zero n)

some_bits : (n : ℕ) → 0 < 2 ^ n
some_bits zero = omega arith
some_bits (suc n) = let h = some_bits n in let e = two-pow-succ n in omega arith

told_nothing : (s : State) → IsTold s.table.defs s.faults (record { state = s; answer = quiet })
told_nothing s = record {
  defs = refl;
  released = some_bits (length s.table.defs);
  overlapped = some_bits (length s.table.defs);
  faults = sym (append-nil s.faults) ∙ ap (λ ts. s.faults ++ map (task_fault s Minor PERIODIC_OVERLAP) ts) (sym (none_in (length s.table.defs)));
}

told_watchdog : (s : State) (t : ℕ) → IsTold s.table.defs s.faults (after_watchdogs s (Some t))
told_watchdog s t = record {
  defs = refl;
  released = some_bits (length s.table.defs);
  overlapped = some_bits (length s.table.defs);
  faults = ap (λ ts. s.faults ++ task_fault s Major WATCHDOG t ∷ map (task_fault s Minor PERIODIC_OVERLAP) ts) (sym (none_in (length s.table.defs)));
}

begins : (s : State) → IsSoFar s 0 (record { state = s; answer = quiet })
begins s = record { tick = refl; defs = refl; watchdog = refl; released = some_bits 0; overlapped = some_bits 0; faults = sym (append-nil s.faults) }

told_walk : (s : State) (y : Answered TickReport) → IsSoFar s (length s.table.defs) y → IsTold s.table.defs s.faults y
told_walk s y h = record {
  defs = h.defs;
  released = h.released;
  overlapped = h.overlapped;
  faults = h.faults ∙ ap (λ fs. s.faults ++ fs) (sym same);
}
  where
    same : report_faults y.state y.answer ≡ map (task_fault s Minor PERIODIC_OVERLAP) (tasks_in y.answer.overlapped (length s.table.defs))
    same =
        ap (λ o. watchdog_fault y.state o ++ map (task_fault y.state Minor PERIODIC_OVERLAP) (tasks_in y.answer.overlapped (length y.state.table.defs))) h.watchdog
        ∙ (ap (λ now. map (task_fault (record s { tick = now }) Minor PERIODIC_OVERLAP) (tasks_in y.answer.overlapped (length y.state.table.defs))) h.tick
        ∙ ap (λ (ds : List TaskDef). map (task_fault s Minor PERIODIC_OVERLAP) (tasks_in y.answer.overlapped (length ds))) h.defs)

told_releases : (s : State) (o : Option ℕ) → IsTold s.table.defs s.faults (after_watchdogs s o)
told_releases s (Some t) = told_watchdog s t
told_releases s None =
    let n = length s.table.defs in
    let y = after_watchdogs s None in
    told_walk s y (subst (λ i. IsSoFar s i y) (let e : 0 + n ≡ n = omega arith in e) (walk s 0 n (record { state = s; answer = quiet }) (begins s)))

unless_open_defs : (s : Table) (o : Option ℕ) → (unless_open o s).defs ≡ s.defs
unless_open_defs s None = refl
unless_open_defs s (Some t) = cond_both (is_open (state_of s t)) s (to_back t s) (λ (x : Table). x.defs ≡ s.defs) (λ q. refl) (λ q. refl)

told_in : (m : Mode) (s : State) → IsTold s.table.defs s.faults (in_mode m s)
told_in Run s =
    let s' = record s { table = rotate s.table } in
    subst (λ ds. IsTold ds s.faults (in_run s)) (unless_open_defs s.table (chosen s.table)) (told_releases s' (expired s'.tick s'.table))
told_in Program s = told_nothing s
told_in Faulted s = told_nothing s

told : (s : State) → IsTold s.table.defs s.faults (tick s)
told s = told_in s.mode (record s { tick = s.tick + 1 })

pub ticks_tell : TicksTellFaults
ticks_tell s = (told s).faults

pub masks_of_tasks : MasksAreOfTasks
masks_of_tasks s = ((told s).released, (told s).overlapped)

pub ticks_keep_tasks : TicksKeepTasks
ticks_keep_tasks s = (told s).defs
