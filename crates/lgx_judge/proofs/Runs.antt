-- Runs of equal events, taken one after another.
use Rattle.std.proofs.Common.{◌≡◌, ℕ, zero, suc, ◌+◌, ◌<◌, ◌≤◌, List, [], ◌∷◌, ◌++◌, length, take, get_or, replicate, count_by, Bool, cond, Result, Ok, IfOk, refl, sym, ap, ◌∙◌, subst, append_assoc, append-nil, add-one, arith}
use Rattle.std.specs.Prelude.{slice_index_or}
use Rattle.std.proofs.lemmas.List.{length-replicate}
use Rattle.std.proofs.lemmas.List.Sums.{sum_by-cons}
use Rattle.std.proofs.lemmas.List.Folds.{length-flat_map-take}
use Rattle.spec_base.specs.declared.limits.TheConstants.{MAX_EVENTS, MAX_JOURNAL_STEPS, MAX_ACTIONS}
use Rattle.spec_machine.specs.declared.event.Event.{Event}
use Rattle.spec_machine.specs.declared.event.Event.TheVariants.{Cpu, Tick, Act}
use Rattle.spec_machine.specs.Events.{is_step, is_tick, is_action}
use Rattle.spec_text.specs.declared.script.EventRun.{EventRun}
use Rattle.spec_text.specs.declared.script.JournalFault.{JournalFault}
use Rattle.spec_text.specs.JournalText.{journal_of, joined, events_of, IsWithin}
use Rattle.spec_text.proofs.JoinedRuns.{runs_expand}
use Rattle.spec_text.proofs.WithinLimits.{journals_are_within}

-- once more
pub one_more : (events : List Event) (e : Event) (n : ℕ) → (events ++ replicate n e) ++ e ∷ [] ≡ events ++ replicate (n + 1) e
one_more events e n = append_assoc events (replicate n e) (e ∷ []) ∙ ap (λ es. events ++ es) (sym (last n) ∙ ap (λ k. replicate k e) (sym (add-one n)))
  where
    last : (n : ℕ) → replicate (suc n) e ≡ replicate n e ++ e ∷ []
    last zero = refl
    last (suc n) = ap (λ es. e ∷ es) (last n)

-- what stands in a journal after its runs
pub no_run : EventRun
no_run = record { event = Cpu; count = 0 }

abbrev run_events : EventRun → List Event
run_events r = replicate r.count r.event

next_run : (runs : List EventRun) (i : ℕ) (d : EventRun) → i < length runs → events_of (take i runs) ++ run_events (get_or runs i d) ≡ events_of (take (suc i) runs)
next_run [] i d h = absurd (omega arith)
next_run (r ∷ rs) zero d h = sym (append-nil (run_events r))
next_run (r ∷ rs) (suc i) d h =
    append_assoc (run_events r) (events_of (take i rs)) (run_events (get_or rs i d)) ∙ ap (λ es. run_events r ++ es) (next_run rs i d (omega arith))

-- the events of the runs before one, and those of this run
pub one_more_run : (runs : List EventRun) (i : ℕ) (d : EventRun) → i < length runs → events_of (take i runs) ++ replicate (slice_index_or runs i d).count (slice_index_or runs i d).event ≡ events_of (take (i + 1) runs)
one_more_run runs i d h = next_run runs i d h ∙ ap (λ k. events_of (take k runs)) (sym (add-one i))

-- there is room for a run's events
pub room_for_run : (events : List Event) (i : ℕ) (d : EventRun) → i < length (joined events) → length events ≤ MAX_EVENTS → length (events_of (take i (joined events))) + (slice_index_or (joined events) i d).count ≤ MAX_EVENTS
room_for_run events i d h few =
    let all : length (events_of (joined events)) ≡ length events = ap length (runs_expand events) in
    let part : length (events_of (take i (joined events))) + length (run_events (get_or (joined events) i d)) ≤ length (events_of (joined events)) = length-flat_map-take run_events (joined events) i d h in
    let count : length (run_events (get_or (joined events) i d)) ≡ (get_or (joined events) i d).count = length-replicate (get_or (joined events) i d).count (get_or (joined events) i d).event in
    omega arith

-- a journal's events are processor steps, ticks and actions
counted : (p : Event → Bool) (e : Event) (es : List Event) → count_by p (e ∷ es) ≡ cond (p e) 1 0 + count_by p es
counted p e es = sum_by-cons (λ x. cond (p x) 1 0) e es

kinds : (events : List Event) → length events ≡ count_by is_step events + count_by is_tick events + count_by is_action events
kinds [] = refl
kinds (Cpu ∷ es) =
    let steps : count_by is_step (Cpu ∷ es) ≡ 1 + count_by is_step es = counted is_step Cpu es in
    let ticks : count_by is_tick (Cpu ∷ es) ≡ 0 + count_by is_tick es = counted is_tick Cpu es in
    let actions : count_by is_action (Cpu ∷ es) ≡ 0 + count_by is_action es = counted is_action Cpu es in
    let rest = kinds es in
    omega arith
kinds (Tick ∷ es) =
    let steps : count_by is_step (Tick ∷ es) ≡ 0 + count_by is_step es = counted is_step Tick es in
    let ticks : count_by is_tick (Tick ∷ es) ≡ 1 + count_by is_tick es = counted is_tick Tick es in
    let actions : count_by is_action (Tick ∷ es) ≡ 0 + count_by is_action es = counted is_action Tick es in
    let rest = kinds es in
    omega arith
kinds (Act lane a ∷ es) =
    let steps : count_by is_step (Act lane a ∷ es) ≡ 0 + count_by is_step es = counted is_step (Act lane a) es in
    let ticks : count_by is_tick (Act lane a ∷ es) ≡ 0 + count_by is_tick es = counted is_tick (Act lane a) es in
    let actions : count_by is_action (Act lane a ∷ es) ≡ 1 + count_by is_action es = counted is_action (Act lane a) es in
    let rest = kinds es in
    omega arith

-- a journal that was read can be replayed
pub few_events : (bytes : List ℕ) (events : List Event) → journal_of bytes ≡ Ok events → length events ≤ MAX_EVENTS
few_events bytes events is =
    let P : Result (List Event) JournalFault → Type 0 = λ r. IfOk r (λ journal. IsWithin journal) in
    let within : IsWithin events = subst P is (journals_are_within bytes) in
    let steps : count_by is_step events ≤ MAX_JOURNAL_STEPS = within.steps in
    let ticks : count_by is_tick events ≤ MAX_JOURNAL_STEPS = within.ticks in
    let actions : count_by is_action events ≤ MAX_ACTIONS = within.actions in
    let all = kinds events in
    omega arith
