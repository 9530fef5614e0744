-- A journal that is read has no lane above its own, and no more events than a controller counts.
use Rattle.std.proofs.Common.{◌≡◌, ℕ, zero, suc, ◌+◌, ◌≤◌, List, [], ◌∷◌, length, replicate, count_by, Bool, true, false, cond, ◌&&◌, nat_lt, Option, Some, None, Result, Ok, Err, IfOk, IfSome, refl, ◌∙◌, subst, arith}
use Rattle.std.specs.Prelude.{codes}
use Rattle.std.specs.List.{list_all}
use Rattle.std.specs.Option.{option_or}
use Rattle.std.specs.Str.{bytes_eq}
use Rattle.std.proofs.lemmas.Bool.{and_from, and_parts, le-leb, ltb-true}
use Rattle.std.proofs.lemmas.List.Folds.{list_all-append}
use Rattle.std.proofs.lemmas.List.Sums.{sum_by-cons}
use Rattle.spec_base.specs.declared.limits.TheConstants.{MAX_ACTIONS, MAX_EVENTS, MAX_JOURNAL_STEPS, OWN_LANE}
use Rattle.spec_machine.specs.declared.event.Action.{Action}
use Rattle.spec_machine.specs.declared.event.Event.{Event}
use Rattle.spec_machine.specs.declared.event.Event.TheVariants.{Cpu, Tick, Act}
use Rattle.spec_machine.specs.Events.{is_step, is_tick, is_action}
use Rattle.spec_text.specs.declared.script.EventRun.{EventRun}
use Rattle.spec_text.specs.declared.script.JournalCode.{JournalCode}
use Rattle.spec_text.specs.declared.script.JournalCode.TheVariants.{J1, J2, J4}
use Rattle.spec_text.specs.declared.script.JournalFault.{JournalFault}
use Rattle.spec_text.specs.ActionText.{at_word, action_of}
use Rattle.spec_text.specs.JournalText.{IsWithin, Tally, action_run, all_events, before_rest, counted_run, events_of, is_allowed, is_end, is_lane, is_line, journal_of, journal_runs, lane_of, lane_run, no_events, read_line, refused, run_of, runs_from, times, with_run}
use Rattle.spec_text.specs.TextLines.{after_word, is_skipped, lines, unsigned_of, words}
use Rattle.spec_text.proofs.KeptScripts.{some_keeps, unless_keeps}
use Rattle.spec_text.proofs.WithinLimits.{journals_are_within}
use Rattle.lgx_journal.specs.Written.{has_lane}

-- ---- a line

abbrev Placed : EventRun → Type 0
Placed r = has_lane r.event ≡ true

-- of a line whose lane is this one
abbrev FitsLane : Option ℕ → EventRun → Type 0
FitsLane lane r = is_lane lane ≡ true → Placed r

both_fit : (P : EventRun → Type 0) (a b : Option EventRun) → IfSome a P → IfSome b P → IfSome (option_or a b) P
both_fit P (Some r) b h k = h
both_fit P None b h k = k

own_fits : (lane : Option ℕ) (o : Option Action) → IfSome (action_run OWN_LANE o) (FitsLane lane)
own_fits lane None = tt
own_fits lane (Some a) = λ h. le-leb OWN_LANE OWN_LANE (omega arith)

lane_fits : (line : List ℕ) (lane : Option ℕ) → IfSome (lane_run line lane) (FitsLane lane)
lane_fits line None = tt
lane_fits line (Some lane) = go (action_of (after_word line))
  where
    go : (o : Option Action) → IfSome (action_run lane o) (FitsLane (Some lane))
    go None = tt
    go (Some a) = λ h. le-leb lane OWN_LANE (let l = ltb-true lane OWN_LANE h in omega arith)

count_fits : (lane : Option ℕ) (ws : List (List ℕ)) → IfSome (counted_run ws) (FitsLane lane)
count_fits lane [] = tt
count_fits lane (verb ∷ []) = tt
count_fits lane (verb ∷ count ∷ []) =
    both_fit (FitsLane lane) (at_word verb (codes "cpu") (times Cpu (unsigned_of count))) (at_word verb (codes "tick") (times Tick (unsigned_of count)))
    (go (bytes_eq verb (codes "cpu")) Cpu refl (unsigned_of count)) (go (bytes_eq verb (codes "tick")) Tick refl (unsigned_of count))
  where
    go : (b : Bool) (e : Event) → has_lane e ≡ true → (o : Option ℕ) → IfSome (cond b (times e o) None) (FitsLane lane)
    go false e k o = tt
    go true e k None = tt
    go true e k (Some n) = λ h. k
count_fits lane (verb ∷ count ∷ w ∷ ws) = tt

run_fits : (line : List ℕ) → IfSome (run_of line) (FitsLane (lane_of line))
run_fits line =
    both_fit (FitsLane (lane_of line)) (counted_run (words line)) (option_or (lane_run line (lane_of line)) (action_run OWN_LANE (action_of line))) (count_fits (lane_of line) (words line))
    (both_fit (FitsLane (lane_of line)) (lane_run line (lane_of line)) (action_run OWN_LANE (action_of line)) (lane_fits line (lane_of line)) (own_fits (lane_of line) (action_of line)))

line_placed : (t : Tally) (line : List ℕ) → IfOk (read_line t line) Placed
line_placed t line =
    unless_keeps (is_line line) J1 _ Placed (λ l. some_keeps (run_of line) J1 _ (FitsLane (lane_of line)) Placed (run_fits line)
    (λ r fits. unless_keeps (is_lane (lane_of line)) J2 _ Placed (λ lane. unless_keeps (nat_lt 0 r.count && is_allowed (with_run t r)) J4 (λ v. Ok r) Placed (λ h. fits lane))))

-- ---- all lines

abbrev ArePlaced : List EventRun → Type 0
ArePlaced rs = list_all (λ r. has_lane r.event) rs ≡ true

before_placed : (r : EventRun) (o : Result (List EventRun) JournalFault) → Placed r → IfOk o ArePlaced → IfOk (before_rest r o) ArePlaced
before_placed r (Err e) k h = tt
before_placed r (Ok rs) k h = and_from _ _ k h

module _ (n : ℕ) (t : Tally) (l : List ℕ) (ls : List (List ℕ)) (later : (t' : Tally) → IfOk (runs_from (n + 1) t' ls) ArePlaced) where
  by_line : (x : Result EventRun JournalCode) → IfOk x Placed → let o : Result (List EventRun) JournalFault = elim x [ Err code ↦ refused n code | Ok r ↦ before_rest r (runs_from (n + 1) (with_run t r) ls) ] in IfOk o ArePlaced
  by_line (Err code) h = tt
  by_line (Ok r) h = before_placed r (runs_from (n + 1) (with_run t r) ls) h (later (with_run t r))

  by_end : (b : Bool) → let o : Result (List EventRun) JournalFault = elim b [ true ↦ Ok [] | false ↦ elim (read_line t l) [ Err code ↦ refused n code | Ok r ↦ before_rest r (runs_from (n + 1) (with_run t r) ls) ] ] in IfOk o ArePlaced
  by_end true = refl
  by_end false = by_line (read_line t l) (line_placed t l)

  by_skip : (b : Bool) → let o : Result (List EventRun) JournalFault = elim b [ true ↦ runs_from (n + 1) t ls | false ↦ elim (is_end l && is_line l) [ true ↦ Ok [] | false ↦ elim (read_line t l) [ Err code ↦ refused n code | Ok r ↦ before_rest r (runs_from (n + 1) (with_run t r) ls) ] ] ] in IfOk o ArePlaced
  by_skip true = later t
  by_skip false = by_end (is_end l && is_line l)

runs_placed : (n : ℕ) (t : Tally) (ls : List (List ℕ)) → IfOk (runs_from n t ls) ArePlaced
runs_placed n t [] = tt
runs_placed n t (l ∷ ls) = by_skip n t l ls (λ t'. runs_placed (n + 1) t' ls) (is_skipped l)

-- ---- the events

same_placed : (n : ℕ) (e : Event) → has_lane e ≡ true → list_all has_lane (replicate n e) ≡ true
same_placed zero e h = refl
same_placed (suc n) e h = and_from _ _ h (same_placed n e h)

events_placed : (rs : List EventRun) → ArePlaced rs → list_all has_lane (events_of rs) ≡ true
events_placed [] h = refl
events_placed (r ∷ rs) h =
    let two = and_parts (has_lane r.event) (list_all (λ x. has_lane x.event) rs) h in
    list_all-append has_lane (replicate r.count r.event) (events_of rs) ∙ and_from _ _ (same_placed r.count r.event two.0) (events_placed rs two.1)

pub journal_lanes : (bytes : List ℕ) (journal : List Event) → journal_of bytes ≡ Ok journal → list_all has_lane journal ≡ true
journal_lanes bytes journal is = subst (λ (o : Result (List Event) JournalFault). IfOk o (λ es. list_all has_lane es ≡ true)) is (go (journal_runs bytes) (runs_placed 1 no_events (lines bytes)))
  where
    go : (o : Result (List EventRun) JournalFault) → IfOk o ArePlaced → IfOk (all_events o) (λ es. list_all has_lane es ≡ true)
    go (Err e) h = tt
    go (Ok rs) h = events_placed rs h

-- ---- how many they are

abbrev one_if : Bool → ℕ
one_if b = cond b 1 0

one_kind : (e : Event) → one_if (is_step e) + one_if (is_tick e) + one_if (is_action e) ≡ 1
one_kind Cpu = refl
one_kind Tick = refl
one_kind (Act lane a) = refl

of_kinds : (es : List Event) → length es ≡ count_by is_step es + count_by is_tick es + count_by is_action es
of_kinds [] = refl
of_kinds (e ∷ es) =
    let steps : count_by is_step (e ∷ es) ≡ one_if (is_step e) + count_by is_step es = sum_by-cons (λ x. one_if (is_step x)) e es in
    let ticks : count_by is_tick (e ∷ es) ≡ one_if (is_tick e) + count_by is_tick es = sum_by-cons (λ x. one_if (is_tick x)) e es in
    let actions : count_by is_action (e ∷ es) ≡ one_if (is_action e) + count_by is_action es = sum_by-cons (λ x. one_if (is_action x)) e es in
    let one = one_kind e in
    let rest = of_kinds es in
    omega arith

pub journal_events : (bytes : List ℕ) (journal : List Event) → journal_of bytes ≡ Ok journal → length journal ≤ MAX_EVENTS
journal_events bytes journal is =
    let within : IsWithin journal = subst (λ (o : Result (List Event) JournalFault). IfOk o (λ es. IsWithin es)) is (journals_are_within bytes) in
    let steps : count_by is_step journal ≤ MAX_JOURNAL_STEPS = within.steps in
    let ticks : count_by is_tick journal ≤ MAX_JOURNAL_STEPS = within.ticks in
    let actions : count_by is_action journal ≤ MAX_ACTIONS = within.actions in
    let all = of_kinds journal in
    omega arith
