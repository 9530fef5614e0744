-- Without their letters, a controller's lines are the report of its events.
use Rattle.std.proofs.Common.{◌≡◌, ℕ, ◌+◌, List, [], ◌∷◌, ◌++◌, length, map, drop, flat_map, refl, sym, ◌∙◌, ap, append_assoc, append-nil}
use Rattle.std.specs.Prelude.{if◌then◌else◌}
use Rattle.std.proofs.lemmas.Grind.{flat_map-append}
use Rattle.spec_base.specs.declared.limits.TheConstants.{MAX_REPORT_LINES}
use Rattle.spec_machine.specs.declared.event.Event.{Event}
use Rattle.spec_machine.specs.Machine.{step}
use Rattle.spec_machine.specs.Project.{Project, Watch}
use Rattle.spec_machine.specs.Report.{Stamped, is_step, stamp, event_lines, lines_from, report_lines}
use Rattle.spec_machine.specs.State.{State, start}
use Rattle.spec_text.specs.ReportText.{names_of, line_text}
use Rattle.spec_link.specs.declared.script.LinkAnswer.{LinkAnswer}
use Rattle.spec_link.specs.declared.script.LinkAnswer.TheVariants.{Events, SendHeld, Sent, NotSent, DeliverHeld, Stale, New}
use Rattle.spec_link.specs.declared.script.LinkStep.{LinkStep}
use Rattle.spec_link.specs.Links.{Pair, Link, opened, link_step, link_run}
use Rattle.spec_link.specs.LinkOutput.{OfA, OfB, told_of_a, told_of_b, kept, new_lines, answer_lines, end_line, step_lines, lines_along, LinesAreReports, pair_of}
use Rattle.spec_link.proofs.Growth.{Goes, takes_go, new_joined, nothing_new}
use Rattle.spec_link.proofs.Journals.{step_goes, run_goes}

-- ---- the lines that a report keeps go on with the journal

lines_go : (ws : List Watch) (s : State) (n : ℕ) (xs more : List Event) → Goes (lines_from ws s n xs) (lines_from ws s n (xs ++ more))
lines_go ws s n [] more = (lines_from ws s n more, refl)
lines_go ws s n (x ∷ xs) more =
    let y = step s x in
    let next : ℕ = (if is_step x then n + 1 else n) in
    let here = stamp y.state.tick next (event_lines ws s y.state y.answer) in
    let rest = lines_go ws y.state next xs more in
    (rest.0, ap (λ (l : List Stamped). here ++ l) rest.1 ∙ sym (append_assoc here (lines_from ws y.state next xs) rest.0))

all_lines_go : (p : Project) (old new : List Event) → Goes old new → Goes (report_lines p old) (report_lines p new)
all_lines_go p old new g =
    let more = lines_go p.watches (start p) 0 old g.0 in
    (more.0, ap (λ (j : List Event). report_lines p j) g.1 ∙ more.1)

kept_goes : (p : Project) (old new : List Event) → Goes old new → Goes (kept p old) (kept p new)
kept_goes p old new g = takes_go MAX_REPORT_LINES (report_lines p old) (report_lines p new) (all_lines_go p old new g)

-- ---- what is new of them, as text

abbrev new_kept : Project → List Event → List Event → List Stamped
new_kept p old new = drop (length (kept p old)) (kept p new)

new_text : Project → List Event → List Event → List ℕ
new_text p old new = flat_map (line_text (names_of p)) (new_kept p old new)

text_joined : (p : Project) (old mid new : List Event) → Goes old mid → Goes mid new → new_text p old mid ++ new_text p mid new ≡ new_text p old new
unfolding new_text
text_joined p old mid new a b =
    let f = line_text (names_of p) in
    sym (flat_map-append f (drop (length (kept p old)) (kept p mid)) (drop (length (kept p mid)) (kept p new)))
    ∙ ap (λ (l : List Stamped). flat_map f l) (new_joined (kept p old) (kept p mid) (kept p new) (kept_goes p old mid a) (kept_goes p mid new b))

no_text : (p : Project) (j : List Event) → new_text p j j ≡ []
unfolding new_text
no_text p j = ap (λ (l : List Stamped). flat_map (line_text (names_of p)) l) (nothing_new (kept p j))

-- ---- the lines of one controller among those of both

own_a : (f : Stamped → List ℕ) (xs : List Stamped) → flat_map told_of_a (map (λ s. OfA (f s)) xs) ≡ flat_map f xs
own_a f [] = refl
own_a f (x ∷ xs) = ap (λ (t : List ℕ). f x ++ t) (own_a f xs)

own_b : (f : Stamped → List ℕ) (xs : List Stamped) → flat_map told_of_b (map (λ s. OfB (f s)) xs) ≡ flat_map f xs
own_b f [] = refl
own_b f (x ∷ xs) = ap (λ (t : List ℕ). f x ++ t) (own_b f xs)

none_of_b : (f : Stamped → List ℕ) (xs : List Stamped) → flat_map told_of_a (map (λ s. OfB (f s)) xs) ≡ []
none_of_b f [] = refl
none_of_b f (x ∷ xs) = none_of_b f xs

none_of_a : (f : Stamped → List ℕ) (xs : List Stamped) → flat_map told_of_b (map (λ s. OfA (f s)) xs) ≡ []
none_of_a f [] = refl
none_of_a f (x ∷ xs) = none_of_a f xs

answer_of_a : (x : LinkAnswer) → flat_map told_of_a (answer_lines x) ≡ []
answer_of_a Events = refl
answer_of_a SendHeld = refl
answer_of_a (Sent k) = refl
answer_of_a (NotSent k) = refl
answer_of_a (DeliverHeld k) = refl
answer_of_a (Stale k) = refl
answer_of_a (New k) = refl

answer_of_b : (x : LinkAnswer) → flat_map told_of_b (answer_lines x) ≡ []
answer_of_b Events = refl
answer_of_b SendHeld = refl
answer_of_b (Sent k) = refl
answer_of_b (NotSent k) = refl
answer_of_b (DeliverHeld k) = refl
answer_of_b (Stale k) = refl
answer_of_b (New k) = refl

-- three pieces
pieces : {X : Type 0} (f : X → List ℕ) (xs ys zs : List X) → flat_map f (xs ++ (ys ++ zs)) ≡ flat_map f xs ++ (flat_map f ys ++ flat_map f zs)
pieces f xs ys zs = flat_map-append f xs (ys ++ zs) ∙ ap (λ t. flat_map f xs ++ t) (flat_map-append f ys zs)

only_first : (a b c : List ℕ) (x : List ℕ) → a ≡ x → b ≡ [] → c ≡ [] → a ++ (b ++ c) ≡ x
only_first a b c x ea eb ec = ap (λ t. a ++ (t ++ c)) eb ∙ (ap (λ t. a ++ t) ec ∙ (append-nil a ∙ ea))

only_second : (a b c : List ℕ) (x : List ℕ) → a ≡ [] → b ≡ x → c ≡ [] → a ++ (b ++ c) ≡ x
only_second a b c x ea eb ec = ap (λ t. t ++ (b ++ c)) ea ∙ (ap (λ t. b ++ t) ec ∙ (append-nil b ∙ eb))

-- ---- line by line

step_of_a : (l : Pair) (s : Link) (x : LinkStep) → flat_map told_of_a (step_lines l s (link_step l s x)) ≡ new_text l.a s.a (link_step l s x).link.a
unfolding new_text
step_of_a l s x =
    let y = link_step l s x in
    pieces told_of_a (new_lines OfA l.a s.a y.link.a) (new_lines OfB l.b s.b y.link.b) (answer_lines y.answer)
    ∙ only_first _ _ _ _ (own_a (line_text (names_of l.a)) (new_kept l.a s.a y.link.a)) (none_of_b (line_text (names_of l.b)) (new_kept l.b s.b y.link.b)) (answer_of_a y.answer)

step_of_b : (l : Pair) (s : Link) (x : LinkStep) → flat_map told_of_b (step_lines l s (link_step l s x)) ≡ new_text l.b s.b (link_step l s x).link.b
unfolding new_text
step_of_b l s x =
    let y = link_step l s x in
    pieces told_of_b (new_lines OfA l.a s.a y.link.a) (new_lines OfB l.b s.b y.link.b) (answer_lines y.answer)
    ∙ only_second _ _ _ _ (none_of_a (line_text (names_of l.a)) (new_kept l.a s.a y.link.a)) (own_b (line_text (names_of l.b)) (new_kept l.b s.b y.link.b)) (answer_of_b y.answer)

-- where the first piece is told, and what is told of the rest
step_then : {X : Type 0} (f : X → List ℕ) (xs ys : List X) (here rest all end : List ℕ) → flat_map f xs ≡ here → flat_map f ys ≡ rest ++ end → here ++ rest ≡ all → flat_map f (xs ++ ys) ≡ all ++ end
step_then f xs ys here rest all end a b joined =
    flat_map-append f xs ys
    ∙ (ap (λ t. t ++ flat_map f ys) a
    ∙ (ap (λ t. here ++ t) b
    ∙ (sym (append_assoc here rest end)
    ∙ ap (λ t. t ++ end) joined)))

along_a : (l : Pair) (s : Link) (xs : List LinkStep) → flat_map told_of_a (lines_along l s xs) ≡ new_text l.a s.a (link_run l s xs).a ++ end_line l.a (link_run l s xs).a
along_a l s [] = append-nil (end_line l.a s.a) ∙ ap (λ (t : List ℕ). t ++ end_line l.a s.a) (sym (no_text l.a s.a))
along_a l s (x ∷ xs) =
    let next = (link_step l s x).link in
    step_then told_of_a (step_lines l s (link_step l s x)) (lines_along l next xs) _ _ _ _ (step_of_a l s x) (along_a l next xs)
    (text_joined l.a s.a next.a (link_run l next xs).a (step_goes l s x).a (run_goes l next xs).a)

along_b : (l : Pair) (s : Link) (xs : List LinkStep) → flat_map told_of_b (lines_along l s xs) ≡ new_text l.b s.b (link_run l s xs).b ++ end_line l.b (link_run l s xs).b
along_b l s [] = append-nil (end_line l.b s.b) ∙ ap (λ (t : List ℕ). t ++ end_line l.b s.b) (sym (no_text l.b s.b))
along_b l s (x ∷ xs) =
    let next = (link_step l s x).link in
    step_then told_of_b (step_lines l s (link_step l s x)) (lines_along l next xs) _ _ _ _ (step_of_b l s x) (along_b l next xs)
    (text_joined l.b s.b next.b (link_run l next xs).b (step_goes l s x).b (run_goes l next xs).b)

pub lines_are_reports : LinesAreReports
unfolding new_text
lines_are_reports a b script = record {
  of_a = along_a (pair_of a b script) opened script.steps;
  of_b = along_b (pair_of a b script) opened script.steps;
}
