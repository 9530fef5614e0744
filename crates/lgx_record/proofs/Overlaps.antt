-- The lines of a tick's overlaps, task by task.
use Rattle.std.proofs.Common.{◌≡◌, ℕ, zero, suc, ◌+◌, ◌-◌, ◌^◌, ◌<◌, ◌≤◌, Bool, true, false, List, [], ◌∷◌, ◌++◌, length, map, refl, sym, ap, ◌∙◌, arith, add-zero, add-one, eq-eqb}
use Rattle.std.specs.Prelude.{nat_eq, if◌then◌else◌}
use Rattle.std.specs.Int.{bit_at}
use Rattle.std.proofs.lemmas.Bool.{eqb-true, false_from_ne_true}
use Rattle.std.proofs.lemmas.List.{append-nil, map-append}
use Rattle.std.proofs.lemmas.Nat.Bits.{bit_at_above}
use Rattle.spec_base.specs.declared.limits.TheConstants.{MAX_TASKS}
use Rattle.spec_tables.specs.declared.fault.TheConstants.{PERIODIC_OVERLAP}
use Rattle.spec_tables.specs.declared.fault.Fault.{Fault}
use Rattle.spec_tables.specs.declared.fault.Severity.TheVariants.{Minor}
use Rattle.spec_machine.specs.declared.line.Line.{Line}
use Rattle.spec_machine.specs.declared.line.Line.TheVariants.{Fault as FaultLine}
use Rattle.spec_machine.specs.declared.answer.TickReport.{TickReport}
use Rattle.spec_machine.specs.State.{State}
use Rattle.spec_machine.specs.Releases.{task_fault}
use Rattle.spec_machine.specs.TickLaws.{tasks_in, watchdog_fault, report_faults}
use Rattle.lgx_watch.specs.Kept.{KeptLines}
use Rattle.lgx_record.specs.declared.lines.Stamp.{Stamp}
use Rattle.lgx_record.specs.EventLines.{with_event_lines, overlap_lines}
use Rattle.lgx_record.proofs.Logs.{with_event_lines-append}

-- one task more
one-more : (s : State) (mask t : ℕ) → overlap_lines s mask (t + 1) ≡ overlap_lines s mask t ++ (if nat_eq (bit_at mask t) 1 then FaultLine (task_fault s Minor PERIODIC_OVERLAP t) ∷ [] else [])
one-more s mask t =
    let told = task_fault s Minor PERIODIC_OVERLAP in
    let last : List ℕ = (if nat_eq (bit_at mask t) 1 then t ∷ [] else []) in
    ap (λ n. overlap_lines s mask n) (add-one t)
    ∙ ap (map FaultLine) (map-append told (tasks_in mask t) last)
    ∙ map-append FaultLine (map told (tasks_in mask t)) (map told last)
    ∙ ap (λ (ls : List Line). overlap_lines s mask t ++ ls) (by_test (nat_eq (bit_at mask t) 1))
  where
    by_test : (b : Bool) → map FaultLine (map (task_fault s Minor PERIODIC_OVERLAP) (if b then t ∷ [] else [])) ≡ (if b then FaultLine (task_fault s Minor PERIODIC_OVERLAP t) ∷ [] else [])
    by_test true = refl
    by_test false = refl

pub overlap-taken : (s : State) (mask t : ℕ) (start log next : KeptLines) (at : Stamp) (f : Fault) → log ≡ with_event_lines start at (overlap_lines s mask t) → bit_at mask t ≡ 1 → f ≡ task_fault s Minor PERIODIC_OVERLAP t → next ≡ with_event_lines log at (FaultLine f ∷ []) → next ≡ with_event_lines start at (overlap_lines s mask (t + 1))
overlap-taken s mask t start log next at f before bit is put =
    put
    ∙ ap (λ (k : KeptLines). with_event_lines k at (FaultLine f ∷ [])) before
    ∙ with_event_lines-append start at (overlap_lines s mask t) (FaultLine f ∷ [])
    ∙ ap (λ (g : Fault). with_event_lines start at (overlap_lines s mask t ++ FaultLine g ∷ [])) is
    ∙ ap (with_event_lines start at) (sym (one-more s mask t ∙ ap (λ b. overlap_lines s mask t ++ (if b then FaultLine (task_fault s Minor PERIODIC_OVERLAP t) ∷ [] else [])) (eq-eqb (bit_at mask t) 1 bit)))

pub overlap-skipped : (s : State) (mask t : ℕ) (start log : KeptLines) (at : Stamp) → log ≡ with_event_lines start at (overlap_lines s mask t) → (bit_at mask t ≡ 1 → ⊥) → log ≡ with_event_lines start at (overlap_lines s mask (t + 1))
overlap-skipped s mask t start log at before no_bit =
    let none : nat_eq (bit_at mask t) 1 ≡ false = false_from_ne_true (nat_eq (bit_at mask t) 1) (λ is. no_bit (eqb-true (bit_at mask t) 1 is)) in
    before
    ∙ ap (with_event_lines start at) (sym (one-more s mask t ∙ ap (λ b. overlap_lines s mask t ++ (if b then FaultLine (task_fault s Minor PERIODIC_OVERLAP t) ∷ [] else [])) none ∙ append-nil (overlap_lines s mask t)))

-- a mask of the tasks below n has no others
none-past : (mask n d : ℕ) → mask < 2 ^ n → tasks_in mask (n + d) ≡ tasks_in mask n
none-past mask n zero l = ap (tasks_in mask) (add-zero n)
none-past mask n (suc d) l =
    let next : n + suc d ≡ suc (n + d) = omega arith in
    ap (tasks_in mask) next
    ∙ ap (λ b. tasks_in mask (n + d) ++ (if nat_eq b 1 then (n + d) ∷ [] else [])) (bit_at_above mask n (n + d) l (omega arith))
    ∙ append-nil (tasks_in mask (n + d))
    ∙ none-past mask n d l

pub all-tasks : (mask n most : ℕ) → mask < 2 ^ n → n ≤ most → tasks_in mask most ≡ tasks_in mask n
all-tasks mask n most l within =
    let whole : n + (most - n) ≡ most = omega arith in
    ap (tasks_in mask) (sym whole) ∙ none-past mask n (most - n) l

pub no-overlaps : (s : State) (n : ℕ) → overlap_lines s 0 n ≡ []
no-overlaps s n = ap (λ (ts : List ℕ). map FaultLine (map (task_fault s Minor PERIODIC_OVERLAP) ts)) (all-tasks 0 0 n (omega arith) (omega arith))

-- the lines of a tick's faults
pub tick-lines : (s : State) (r : TickReport) (start first second : KeptLines) (at : Stamp) → first ≡ with_event_lines start at (map FaultLine (watchdog_fault s r.watchdog)) → second ≡ with_event_lines first at (overlap_lines s r.overlapped MAX_TASKS) → length s.table.defs ≤ MAX_TASKS → r.overlapped < 2 ^ length s.table.defs → second ≡ with_event_lines start at (map FaultLine (report_faults s r))
tick-lines s r start first second at a b few mask =
    let overlaps : List Fault = map (task_fault s Minor PERIODIC_OVERLAP) (tasks_in r.overlapped (length s.table.defs)) in
    b
    ∙ ap (λ (k : KeptLines). with_event_lines k at (overlap_lines s r.overlapped MAX_TASKS)) a
    ∙ with_event_lines-append start at (map FaultLine (watchdog_fault s r.watchdog)) (overlap_lines s r.overlapped MAX_TASKS)
    ∙ ap (λ (ts : List ℕ). with_event_lines start at (map FaultLine (watchdog_fault s r.watchdog) ++ map FaultLine (map (task_fault s Minor PERIODIC_OVERLAP) ts))) (all-tasks r.overlapped (length s.table.defs) MAX_TASKS mask few)
    ∙ ap (with_event_lines start at) (sym (map-append FaultLine (watchdog_fault s r.watchdog) overlaps))
