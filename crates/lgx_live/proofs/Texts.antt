-- The texts of a log's lines, and of those that come with more events.
use Rattle.std.proofs.Common.{◌≡◌, ℕ, zero, suc, ◌+◌, ◌-◌, ◌<◌, Bool, true, false, cond, List, [], ◌∷◌, ◌++◌, take, drop, replicate, Some, refl, sym, ap, ◌∙◌, arith, append_assoc, append-nil, add-one}
use Rattle.std.specs.Prelude.{flat_map, slice_get, option_map}
use Rattle.std.proofs.lemmas.List.{replicate-append-replicate}
use Rattle.std.proofs.lemmas.Grind.{flat_map-append}
use Rattle.std.proofs.lemmas.List.Sums.{sum_by-cons, sum_by-append}
use Rattle.spec_machine.specs.declared.event.Event.{Event}
use Rattle.spec_machine.specs.Project.{Project, Watch}
use Rattle.spec_machine.specs.State.{State, start}
use Rattle.spec_machine.specs.Machine.{step, run_from, run}
use Rattle.spec_machine.specs.Report.{Stamped, is_step, steps_of, lines_from, stamp, event_lines}
use Rattle.spec_text.specs.ReportText.{Names, names_of, line_text}
use Rattle.lgx_live.specs.Session.{lines_with}
use Rattle.lgx_live.specs.Output.{text_with}

-- ---- a log

-- the text of line number i, and those before and after it
pub line_of_log : (names : Names) (lines : List Stamped) (i : ℕ) (old shown : List ℕ) → old ≡ [] → option_map (λ line. old ++ line_text names line) (slice_get lines i) ≡ Some shown
    → flat_map (line_text names) (take (i + 1) lines) ≡ flat_map (line_text names) (take i lines) ++ shown
line_of_log names lines i old shown none h = ap (λ k. flat_map (line_text names) (take k lines)) (add-one i) ∙ at lines i h
  where
    at : (lines : List Stamped) (i : ℕ) → option_map (λ line. old ++ line_text names line) (slice_get lines i) ≡ Some shown
        → flat_map (line_text names) (take (suc i) lines) ≡ flat_map (line_text names) (take i lines) ++ shown
    at [] i h = absurd (cc h)
    at (x ∷ xs) zero h =
        let is : line_text names x ≡ shown = ap (λ t. t ++ line_text names x) (sym none) ∙ cc h in
        append-nil (line_text names x) ∙ is
    at (x ∷ xs) (suc i) h = ap (λ t. line_text names x ++ t) (at xs i h) ∙ sym (append_assoc (line_text names x) (flat_map (line_text names) (take i xs)) shown)

-- what is after them
pub rest_of_log : (names : Names) (lines : List Stamped) (n : ℕ) → flat_map (line_text names) lines ≡ flat_map (line_text names) (take n lines) ++ flat_map (line_text names) (drop n lines)
rest_of_log names [] zero = refl
rest_of_log names [] (suc n) = refl
rest_of_log names (x ∷ xs) zero = refl
rest_of_log names (x ∷ xs) (suc n) = ap (λ t. line_text names x ++ t) (rest_of_log names xs n) ∙ sym (append_assoc (line_text names x) (flat_map (line_text names) (take n xs)) (flat_map (line_text names) (drop n xs)))

-- ---- events

run_over : (s : State) (xs ys : List Event) → run_from s (xs ++ ys) ≡ run_from (run_from s xs) ys
run_over s [] ys = refl
run_over s (x ∷ xs) ys = run_over (step s x).state xs ys

counted : (n : ℕ) (x : Event) (journal : List Event) → cond (is_step x) (n + 1) n + steps_of journal ≡ n + steps_of (x ∷ journal)
counted n x journal = by_test (is_step x) ∙ ap (λ m. n + m) (sym (sum_by-cons (λ e. cond (is_step e) 1 0) x journal))
  where
    by_test : (b : Bool) → cond b (n + 1) n + steps_of journal ≡ n + (cond b 1 0 + steps_of journal)
    by_test true = omega arith
    by_test false = omega arith

lines_over : (ws : List Watch) (s : State) (n : ℕ) (xs ys : List Event) → lines_from ws s n (xs ++ ys) ≡ lines_from ws s n xs ++ lines_from ws (run_from s xs) (n + steps_of xs) ys
lines_over ws s n [] ys = ap (λ m. lines_from ws s m ys) (omega arith)
lines_over ws s n (x ∷ xs) ys =
    let y = step s x in
    let next = cond (is_step x) (n + 1) n in
    let here = stamp y.state.tick next (event_lines ws s y.state y.answer) in
    ap (λ (l : List Stamped). here ++ l) (lines_over ws y.state next xs ys)
    ∙ sym (append_assoc here (lines_from ws y.state next xs) (lines_from ws (run_from y.state xs) (next + steps_of xs) ys))
    ∙ ap (λ m. (here ++ lines_from ws y.state next xs) ++ lines_from ws (run_from y.state xs) m ys) (counted n x xs)

pub lines_with_both : (project : Project) (events xs ys : List Event) → lines_with project events (xs ++ ys) ≡ lines_with project events xs ++ lines_with project (events ++ xs) ys
lines_with_both project events xs ys =
    lines_over project.watches (run project events) (steps_of events) xs ys
    ∙ ap (λ (s : State). lines_with project events xs ++ lines_from project.watches s (steps_of events + steps_of xs) ys) (sym (run_over (start project) events xs))
    ∙ ap (λ m. lines_with project events xs ++ lines_from project.watches (run project (events ++ xs)) m ys) (sym (sum_by-append (λ e. cond (is_step e) 1 0) events xs))

pub text_with_both : (project : Project) (events xs ys : List Event) → text_with project events (xs ++ ys) ≡ text_with project events xs ++ text_with project (events ++ xs) ys
text_with_both project events xs ys =
    ap (flat_map (line_text (names_of project))) (lines_with_both project events xs ys)
    ∙ flat_map-append (line_text (names_of project)) (lines_with project events xs) (lines_with project (events ++ xs) ys)

-- ---- an event n times

-- once more
pub once_more : (e : Event) (n : ℕ) → replicate (n + 1) e ≡ replicate n e ++ e ∷ []
once_more e n = sym (replicate-append-replicate n 1 e)

-- of n more times: once, and the others
pub parted : (e : Event) (n k : ℕ) → k < n → replicate n e ≡ replicate k e ++ (e ∷ [] ++ replicate (n - (k + 1)) e)
parted e n k h =
    let all : n ≡ k + (1 + (n - (k + 1))) = omega arith in
    ap (λ m. replicate m e) all ∙ sym (replicate-append-replicate k (1 + (n - (k + 1))) e)
    ∙ ap (λ (l : List Event). replicate k e ++ l) (sym (replicate-append-replicate 1 (n - (k + 1)) e))
