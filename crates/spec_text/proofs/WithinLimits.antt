-- What a text is read to is within the limits of a journal.
use Rattle.std.proofs.Common.{◌≡◌, ℕ, ◌+◌, ◌*◌, ◌≤◌, List, [], ◌∷◌, Bool, true, false, cond, ◌&&◌, Result, Ok, Err, IfOk, count_by, fold, replicate, nat_lt, nat_le, refl, sym, ap, ◌∙◌, arith, add_assoc}
use Rattle.std.proofs.lemmas.Bool.{leb-true}
use Rattle.std.proofs.lemmas.List.Folds.{sum_by-replicate}
use Rattle.std.proofs.lemmas.List.Sums.{sum_by-append}
use Rattle.spec_base.specs.declared.limits.TheConstants.{MAX_JOURNAL_STEPS, MAX_ACTIONS}
use Rattle.spec_machine.specs.declared.event.Event.{Event}
use Rattle.spec_machine.specs.declared.event.Event.TheVariants.{Cpu, Tick, Act}
use Rattle.spec_text.specs.declared.script.JournalCode.{JournalCode}
use Rattle.spec_text.specs.declared.script.JournalCode.TheVariants.{J1, J2, J4}
use Rattle.spec_text.specs.declared.script.JournalFault.{JournalFault}
use Rattle.spec_machine.specs.Events.{is_step, is_tick, is_action}
use Rattle.spec_text.specs.TextLines.{lines, is_skipped}
use Rattle.spec_text.specs.declared.script.EventRun.{EventRun}
use Rattle.spec_text.specs.JournalText.{events_of, run_of, lane_of, is_end, is_line, is_lane, is_allowed, Tally, with_run, no_events, IsWithin, read_line, runs_from, before_rest, refused, journal_runs, journal_of, all_events}
use Rattle.std.proofs.lemmas.Bool.{and_parts}
use Rattle.spec_text.proofs.KeptScripts.{unless_keeps, some_keeps, some_plain}

-- ---- tallies of runs

abbrev Keeps : Tally → List EventRun → Type 0
Keeps t rs = is_allowed (fold with_run t rs) ≡ true

line_within : (t : Tally) (line : List ℕ) → IfOk (read_line t line) (λ r. is_allowed (with_run t r) ≡ true)
line_within t line =
    let P : EventRun → Type 0 = λ r. is_allowed (with_run t r) ≡ true in
    unless_keeps (is_line line) J1 _ P (λ l. some_keeps (run_of line) J1 _ (λ r. Unit {0}) P (some_plain (run_of line)) (λ r u. unless_keeps (is_lane (lane_of line)) J2 _ P (λ lane. unless_keeps (nat_lt 0 r.count && is_allowed (with_run t r)) J4 (λ v. Ok r) P (λ h. (and_parts _ _ h).1))))

before_keeps : (t : Tally) (r : EventRun) (o : Result (List EventRun) JournalFault) → IfOk o (Keeps (with_run t r)) → IfOk (before_rest r o) (Keeps t)
before_keeps t r (Err e) h = tt
before_keeps t r (Ok rs) h = h

module _ (n : ℕ) (t : Tally) (l : List ℕ) (ls : List (List ℕ)) (keep : (t' : Tally) → is_allowed t' ≡ true → IfOk (runs_from (n + 1) t' ls) (Keeps t')) where
  line_keeps : (x : Result EventRun JournalCode) → IfOk x (λ r. is_allowed (with_run t r) ≡ true) → let o : Result (List EventRun) JournalFault = elim x [ Err code ↦ refused n code | Ok r ↦ before_rest r (runs_from (n + 1) (with_run t r) ls) ] in IfOk o (Keeps t)
  line_keeps (Err code) h = tt
  line_keeps (Ok r) h = before_keeps t r (runs_from (n + 1) (with_run t r) ls) (keep (with_run t r) h)

  end_keeps : (b : Bool) → is_allowed t ≡ true → let o : Result (List EventRun) JournalFault = elim b [ true ↦ Ok [] | false ↦ elim (read_line t l) [ Err code ↦ refused n code | Ok r ↦ before_rest r (runs_from (n + 1) (with_run t r) ls) ] ] in IfOk o (Keeps t)
  end_keeps true k = k
  end_keeps false k = line_keeps (read_line t l) (line_within t l)

  skip_keeps : (b : Bool) → is_allowed t ≡ true → let o : Result (List EventRun) JournalFault = elim b [ true ↦ runs_from (n + 1) t ls | false ↦ elim (is_end l && is_line l) [ true ↦ Ok [] | false ↦ elim (read_line t l) [ Err code ↦ refused n code | Ok r ↦ before_rest r (runs_from (n + 1) (with_run t r) ls) ] ] ] in IfOk o (Keeps t)
  skip_keeps true k = keep t k
  skip_keeps false k = end_keeps (is_end l && is_line l) k

runs_keep : (n : ℕ) (t : Tally) (ls : List (List ℕ)) → is_allowed t ≡ true → IfOk (runs_from n t ls) (Keeps t)
runs_keep n t [] k = tt
runs_keep n t (l ∷ ls) k = skip_keeps n t l ls (λ t' k'. runs_keep (n + 1) t' ls k') (is_skipped l) k

-- ---- tallies of events

pub counted : (p : Event → Bool) (r : EventRun) (rs : List EventRun) (m : ℕ) → cond (p r.event) 1 0 ≡ m → count_by p (events_of (r ∷ rs)) ≡ r.count * m + count_by p (events_of rs)
counted p r rs m e =
    sum_by-append (λ x. cond (p x) 1 0) (replicate r.count r.event) (events_of rs) ∙ ap (λ k. k + count_by p (events_of rs)) (sum_by-replicate (λ x. cond (p x) 1 0) r.count r.event ∙ ap (λ k. r.count * k) e)

total : (f : Tally → ℕ) (p : Event → Bool) → ((t : Tally) (e : Event) (n : ℕ) → f (with_run t (record { event = e; count = n })) ≡ f t + n * cond (p e) 1 0) → (rs : List EventRun) (t : Tally) → f (fold with_run t rs) ≡ f t + count_by p (events_of rs)
total f p h [] t = search (arith)
total f p h (r ∷ rs) t =
    total f p h rs (with_run t r) ∙ ap (λ k. k + count_by p (events_of rs)) (h t r.event r.count) ∙ add_assoc (f t) (r.count * cond (p r.event) 1 0) (count_by p (events_of rs)) ∙ ap (λ k. f t + k) (sym (counted p r rs (cond (p r.event) 1 0) refl))

pub of_steps : (t : Tally) (e : Event) (n : ℕ) → (with_run t (record { event = e; count = n })).steps ≡ t.steps + n * cond (is_step e) 1 0
of_steps t Cpu n = search (arith)
of_steps t Tick n = search (arith)
of_steps t (Act l a) n = search (arith)

pub of_ticks : (t : Tally) (e : Event) (n : ℕ) → (with_run t (record { event = e; count = n })).ticks ≡ t.ticks + n * cond (is_tick e) 1 0
of_ticks t Cpu n = search (arith)
of_ticks t Tick n = search (arith)
of_ticks t (Act l a) n = search (arith)

pub of_actions : (t : Tally) (e : Event) (n : ℕ) → (with_run t (record { event = e; count = n })).actions ≡ t.actions + n * cond (is_action e) 1 0
of_actions t Cpu n = search (arith)
of_actions t Tick n = search (arith)
of_actions t (Act l a) n = search (arith)

bounded : {m k : ℕ} → m ≡ 0 + k → (n : ℕ) → nat_le m n ≡ true → k ≤ n
bounded {m = m} e n h = search (arith, e, leb-true m n h)

within : (rs : List EventRun) → Keeps no_events rs → IsWithin (events_of rs)
within rs h =
    record { steps = bounded (total (λ t. t.steps) is_step of_steps rs no_events) MAX_JOURNAL_STEPS (and_parts _ _ (and_parts _ _ h).0).0; ticks = bounded (total (λ t. t.ticks) is_tick of_ticks rs no_events) MAX_JOURNAL_STEPS (and_parts _ _ (and_parts _ _ h).0).1; actions = bounded (total (λ t. t.actions) is_action of_actions rs no_events) MAX_ACTIONS (and_parts _ _ h).1 }

expanded : (o : Result (List EventRun) JournalFault) → IfOk o (Keeps no_events) → IfOk (all_events o) IsWithin
expanded (Err e) h = tt
expanded (Ok rs) h = within rs h

pub journals_are_within : (bytes : List ℕ) → IfOk (journal_of bytes) (λ journal. IsWithin journal)
journals_are_within bytes = expanded (journal_runs bytes) (runs_keep 1 no_events (lines bytes) refl)
