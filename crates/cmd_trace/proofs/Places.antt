-- The place in a journal after an event.
use Rattle.std.proofs.Common.{◌≡◌, ℕ, zero, suc, ◌+◌, ◌-◌, ◌<◌, ◌≤◌, ◌^◌, List, [], ◌∷◌, ◌++◌, length, replicate, Bool, true, false, refl, sym, ◌∙◌, ap, arith}
use Rattle.std.specs.Prelude.{slice_index_or, if◌then◌else◌}
use Rattle.spec_machine.specs.declared.event.Event.{Event}
use Rattle.spec_text.specs.declared.script.EventRun.{EventRun}
use Rattle.spec_text.specs.JournalText.{joined, events_of, before_runs, runs_on}
use Rattle.spec_base.specs.declared.limits.TheConstants.{MAX_EVENTS}
use Rattle.spec_text.proofs.JoinedRuns.{runs_expand}
use Rattle.lgx_journal.proofs.AddedRuns.{few_runs}
use Rattle.cmd_trace.specs.TraceLeft.{no_run, events_left, HasNext}

abbrev at : List EventRun → ℕ → EventRun
at runs i = slice_index_or runs i no_run

-- one of n
one_less : (n : ℕ) (e : Event) (es : List Event) → 0 < n → replicate n e ++ es ≡ e ∷ (replicate (n - 1) e ++ es)
one_less zero e es h = absurd (omega arith)
one_less (suc n) e es h = ap (λ k. e ∷ (replicate k e ++ es)) (let z : n ≡ suc n - 1 = omega arith in z)

pub same_run : (runs : List EventRun) (run done : ℕ) → run < length runs → done + 1 < (slice_index_or runs run no_run).count → events_left runs run done ≡ (slice_index_or runs run no_run).event ∷ events_left runs run (done + 1)
same_run [] run done h l = absurd (omega arith)
same_run (r ∷ rs) zero done h l =
    one_less (r.count - done) r.event (events_of rs) (omega arith)
    ∙ ap (λ k. r.event ∷ (replicate k r.event ++ events_of rs)) (let z : r.count - done - 1 ≡ r.count - (done + 1) = omega arith in z)
same_run (r ∷ rs) (suc run) done h l = same_run rs run done (omega arith) l

-- the runs before which nothing was made
whole : (rs : List EventRun) → events_left rs 0 0 ≡ events_of rs
whole [] = refl
whole (r ∷ rs) = ap (λ k. replicate k r.event ++ events_of rs) (let z : r.count - 0 ≡ r.count = omega arith in z)

pub next_run : (runs : List EventRun) (run done : ℕ) → run < length runs → done < (slice_index_or runs run no_run).count → (slice_index_or runs run no_run).count ≤ done + 1 → events_left runs run done ≡ (slice_index_or runs run no_run).event ∷ events_left runs (run + 1) 0
next_run [] run done h l m = absurd (omega arith)
next_run (r ∷ rs) zero done h l m =
    one_less (r.count - done) r.event (events_of rs) (omega arith)
    ∙ (ap (λ k. r.event ∷ (replicate k r.event ++ events_of rs)) (let z : r.count - done - 1 ≡ 0 = omega arith in z)
    ∙ ap (λ es. r.event ∷ es) (sym (whole rs)))
next_run (r ∷ rs) (suc run) done h l m = next_run rs run done (omega arith) l m ∙ ap (λ k. (at rs run).event ∷ events_left (r ∷ rs) k 0) (let z : suc (run + 1) ≡ suc run + 1 = omega arith in z)

-- ---- each run of a journal has an event

before_some : (e : Event) (rs : List EventRun) → ((i : ℕ) → i < length rs → 0 < (at rs i).count) → (i : ℕ) → i < length (before_runs e rs) → 0 < (at (before_runs e rs) i).count
before_some e [] h zero l = omega arith
before_some e [] h (suc i) l = absurd (omega arith)
before_some e (r ∷ rs) h i l = go (runs_on e r.event) i l
  where
    go : (b : Bool) (i : ℕ) → i < length (if b then record r { count = r.count + 1 } ∷ rs else record { event = e; count = 1 } ∷ r ∷ rs) → 0 < (at (if b then record r { count = r.count + 1 } ∷ rs else record { event = e; count = 1 } ∷ r ∷ rs) i).count
    go true zero l = omega arith
    go true (suc i) l = h (suc i) l
    go false zero l = omega arith
    go false (suc i) l = h i (omega arith)

some_events : (es : List Event) (i : ℕ) → i < length (joined es) → 0 < (at (joined es) i).count
some_events [] i l = absurd (omega arith)
some_events (e ∷ es) i l = before_some e (joined es) (some_events es) i l

pub run_goes_on : (runs : List EventRun) (run done : ℕ) → done + 1 < (slice_index_or runs run no_run).count → HasNext runs run (done + 1)
run_goes_on runs run done h l = h

pub run_begins : (es : List Event) (run : ℕ) → HasNext (joined es) run 0
run_begins es run l = some_events es run l

-- a journal has no more runs than events
pub runs_fit : (es : List Event) → length es ≤ MAX_EVENTS → length (joined es) < 2 ^ 32
runs_fit es h =
    let all = runs_expand es in
    let runs = few_runs (joined es) (ap joined all) in
    let same = ap length all in
    omega arith

-- what is left begins with the event of the run
pub next_left : (es : List Event) (run done : ℕ) → run < length (joined es) → HasNext (joined es) run done → (rest : List Event) × (events_left (joined es) run done ≡ (slice_index_or (joined es) run no_run).event ∷ rest)
next_left es run done l next = by_runs (joined es) run done l (next l)
  where
    by_runs : (runs : List EventRun) (run done : ℕ) → run < length runs → done < (slice_index_or runs run no_run).count → (rest : List Event) × (events_left runs run done ≡ (slice_index_or runs run no_run).event ∷ rest)
    by_runs [] run done l m = absurd (omega arith)
    by_runs (r ∷ rs) zero done l m = (replicate (r.count - done - 1) r.event ++ events_of rs, one_less (r.count - done) r.event (events_of rs) (omega arith))
    by_runs (r ∷ rs) (suc run) done l m = by_runs rs run done (omega arith) m

pub whole_runs : (es : List Event) → events_left (joined es) 0 0 ≡ es
whole_runs es = whole (joined es) ∙ runs_expand es
