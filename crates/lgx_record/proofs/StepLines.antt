-- The lines of processor steps: those of which nothing is told, and which leave the watched places as they were, have none; and of
-- begins each has its line.
use Rattle.std.proofs.Common.{◌≡◌, ℕ, zero, suc, ◌+◌, ◌<◌, ◌≤◌, ◌&&◌, Bool, true, false, not, cond, if◌then◌else◌, List, [], ◌∷◌, ◌++◌, length, map, drop, replicate, ℤ, Option, Some, None, is_none, refl, sym, ap, ◌∙◌, subst, append_assoc, arith, length-append}
use Rattle.std.specs.List.{AllByRecursion as Each}
use Rattle.std.proofs.lemmas.Bool.{and_parts, false≢true}
use Rattle.std.proofs.lemmas.List.{append-nil, length-replicate, replicate-append-replicate}
use Rattle.std.proofs.lemmas.List.Sums.{sum_by-cons, sum_by-append}
use Rattle.lgx_num.specs.declared.place.Place.{Place}
use Rattle.lgx_num.specs.Image.{number}
use Rattle.lgx_image.specs.Grains.{SameInWatched}
use Rattle.lgx_image.proofs.Changes.{watched_places_stay}
use Rattle.spec_tables.specs.declared.fault.Fault.{Fault}
use Rattle.spec_machine.specs.declared.answer.What.{What}
use Rattle.spec_machine.specs.declared.answer.What.TheVariants.{Idle, Began, Ran, Copied, Left}
use Rattle.spec_machine.specs.declared.answer.Moment.{Moment}
use Rattle.spec_machine.specs.declared.line.Line.{Line}
use Rattle.spec_machine.specs.declared.line.Line.TheVariants.{Fault as FaultLine}
use Rattle.spec_machine.specs.declared.event.Event.{Event}
use Rattle.spec_machine.specs.declared.event.Event.TheVariants.{Cpu}
use Rattle.spec_machine.specs.Project.{Project, Watch}
use Rattle.spec_machine.specs.State.{State, start}
use Rattle.spec_machine.specs.ProcessorStep.{processor_step}
use Rattle.spec_machine.specs.Machine.{OfStep, step, run_from, run}
use Rattle.spec_machine.specs.Report.{Stamped, is_step, steps_of, stamp, begin_lines, set_lines, event_lines, lines_from}
use Rattle.lgx_watch.specs.JournalLines.{lines_of_event}
use Rattle.lgx_steps.specs.Stretches.{after_steps, moment_after, is_told, is_trigger, is_plain, told_steps, plainly}
use Rattle.lgx_record.specs.EventLines.{begins_lines}
use Rattle.spec_reach.proofs.Grows.{event_moves}
use Rattle.lgx_record.specs.Faults.{faults_in}
use Rattle.lgx_record.specs.Changes.{numbers_at, change_lines, AreWatched}
use Rattle.lgx_record.specs.Extends.{more_lines}
use Rattle.lgx_record.proofs.FewLines.{new_faults}
use Rattle.lgx_record.proofs.Changed.{set_lines-changes, change_line-same}

-- ---- so many steps more

pub run_on : (s : State) (xs ys : List Event) → run_from s (xs ++ ys) ≡ run_from (run_from s xs) ys
run_on s [] ys = refl
run_on s (x ∷ xs) ys = run_on (step s x).state xs ys

pub run-steps : (project : Project) (events : List Event) (n : ℕ) → run project (events ++ replicate n Cpu) ≡ after_steps n (run project events)
run-steps project events n = run_on (start project) events (replicate n Cpu)

-- the last of them
pub last-step : (n : ℕ) (s : State) → after_steps (suc n) s ≡ (processor_step (after_steps n s)).state
last-step zero s = refl
last-step (suc n) s = last-step n (processor_step s).state

steps-cons : (e : Event) (es : List Event) → steps_of (e ∷ es) ≡ cond (is_step e) 1 0 + steps_of es
steps-cons e es = sum_by-cons (λ x. cond (is_step x) 1 0) e es

all-steps : (n : ℕ) → steps_of (replicate n Cpu) ≡ n
all-steps zero = refl
all-steps (suc n) = let first = steps-cons Cpu (replicate n Cpu) in let rest = all-steps n in omega arith

pub more-steps : (events : List Event) (n : ℕ) → steps_of (events ++ replicate n Cpu) ≡ steps_of events + n
more-steps events n = sum_by-append (λ x. cond (is_step x) 1 0) events (replicate n Cpu) ∙ ap (λ k. steps_of events + k) (all-steps n)

pub more-events : (events : List Event) (n : ℕ) → length (events ++ replicate n Cpu) ≡ length events + n
more-events events n = length-append events (replicate n Cpu) ∙ ap (λ k. length events + k) (length-replicate n Cpu)

pub steps-join : (events : List Event) (n m : ℕ) → (events ++ replicate n Cpu) ++ replicate m Cpu ≡ events ++ replicate (n + m) Cpu
steps-join events n m = append_assoc events (replicate n Cpu) (replicate m Cpu) ∙ ap (λ (es : List Event). events ++ es) (replicate-append-replicate n m Cpu)

-- ---- their lines

-- the lines that the report has of so many more processor steps
abbrev pub step_lines : Project → List Event → ℕ → List Stamped
step_lines project events n = more_lines project events (replicate n Cpu)

-- an event and then the others are counted as all of them are
counted : (n : ℕ) (x : Event) (es : List Event) → cond (is_step x) (n + 1) n + steps_of es ≡ n + steps_of (x ∷ es)
counted n x es = by_test (is_step x) ∙ ap (λ m. n + m) (sym (steps-cons x es))
  where
    by_test : (b : Bool) → cond b (n + 1) n + steps_of es ≡ n + (cond b 1 0 + steps_of es)
    by_test true = omega arith
    by_test false = omega arith

pub lines-append : (watches : List Watch) (s : State) (n : ℕ) (xs ys : List Event) → lines_from watches s n (xs ++ ys) ≡ lines_from watches s n xs ++ lines_from watches (run_from s xs) (n + steps_of xs) ys
lines-append watches s n [] ys = ap (λ m. lines_from watches s m ys) (omega arith)
lines-append watches s n (x ∷ xs) ys =
    let after = (step s x).state in
    let first = lines_of_event watches s n x in
    let others = lines_from watches after (cond (is_step x) (n + 1) n) xs in
    ap (λ (rest : List Stamped). first ++ rest) (lines-append watches after (cond (is_step x) (n + 1) n) xs ys)
    ∙ sym (append_assoc first others _)
    ∙ ap (λ m. (first ++ others) ++ lines_from watches (run_from after xs) m ys) (counted n x xs)

-- some steps, and then others
pub lines-join : (project : Project) (events : List Event) (n m : ℕ) → step_lines project events n ++ step_lines project (events ++ replicate n Cpu) m ≡ step_lines project events (n + m)
lines-join project events n m =
    let s = run project events in
    let before = step_lines project events n in
    ap (λ (t : State). before ++ lines_from project.watches t (steps_of (events ++ replicate n Cpu)) (replicate m Cpu)) (run-steps project events n)
    ∙ ap (λ i. before ++ lines_from project.watches (after_steps n s) i (replicate m Cpu)) (more-steps events n ∙ ap (λ k. steps_of events + k) (sym (all-steps n)))
    ∙ sym (lines-append project.watches s (steps_of events) (replicate n Cpu) (replicate m Cpu))
    ∙ ap (λ (es : List Event). lines_from project.watches s (steps_of events) es) (replicate-append-replicate n m Cpu)

-- ---- a step without a line

no-begin : (w : What) → is_told w ≡ false → begin_lines w ≡ []
no-begin Idle is = refl
no-begin (Began t n version) is = absurd (false≢true (sym is))
no-begin (Ran t n) is = refl
no-begin (Copied t n) is = refl
no-begin (Left t n ended) is = refl

no-fault : (o : Option Fault) → is_none o ≡ true → faults_in o ≡ []
no-fault None is = refl
no-fault (Some f) is = absurd (false≢true is)

not-told : (b : Bool) → not b ≡ true → b ≡ false
not-told true is = sym is
not-told false is = refl

pub no-changes : (n : ℕ) (numbers : List ℤ) → change_lines n numbers numbers ≡ []
no-changes n [] = refl
no-changes n (v ∷ vs) =
    ap (λ (first : List Line). first ++ change_lines (n + 1) vs vs) (change_line-same n v v refl) ∙ no-changes (n + 1) vs

pub has-no-line : (watches : List Watch) (s : State) → is_plain (processor_step s).answer ≡ true → numbers_at (processor_step s).state.image (map (λ w. w.place) watches) ≡ numbers_at s.image (map (λ w. w.place) watches) → event_lines watches s (processor_step s).state (OfStep (processor_step s).answer) ≡ []
has-no-line watches s plain same =
    let x = processor_step s in
    let m = x.answer in
    let places = map (λ (w : Watch). w.place) watches in
    let sets = set_lines 0 watches s.image x.state.image in
    let parts = and_parts (not (is_told m.what)) (not (is_trigger m.mark) && is_none m.fault) plain in
    let faults = and_parts (not (is_trigger m.mark)) (is_none m.fault) parts.1 in
    let no_sets : sets ≡ [] =
    set_lines-changes 0 watches s.image x.state.image
    ∙ ap (λ (now : List ℤ). change_lines 0 (numbers_at s.image places) now) same
    ∙ no-changes 0 (numbers_at s.image places) in
    ap (λ (ls : List Line). ls ++ (map FaultLine (drop (length s.faults) x.state.faults) ++ sets)) (no-begin m.what (not-told (is_told m.what) parts.0))
    ∙ ap (λ (fs : List Fault). map FaultLine fs ++ sets) (new_faults s Cpu ∙ no-fault m.fault faults.1)
    ∙ no_sets

-- ---- watched places

-- in two images with the same bytes in watched words
pub numbers-stay : (watched : List Bool) (old new : List ℕ) (places : List Place) → SameInWatched watched old new → AreWatched places watched → numbers_at new places ≡ numbers_at old places
numbers-stay watched old new [] same lie = refl
numbers-stay watched old new (p ∷ ps) same lie =
    ap (λ v. v ∷ numbers_at new ps) (watched_places_stay watched old new p same (lie 0 p refl))
    ∙ ap (λ (vs : List ℤ). number old p ∷ vs) (numbers-stay watched old new ps same (λ w. lie (suc w)))

-- ---- begins

-- some begins, and then another
pub begins-more : (tick n : ℕ) (began : What) (xs : List ℕ) (k : ℕ) → begins_lines tick n began (xs ++ k ∷ []) ≡ begins_lines tick n began xs ++ stamp tick (n + k + 1) (begin_lines began)
begins-more tick n began [] k = append-nil (stamp tick (n + k + 1) (begin_lines began))
begins-more tick n began (x ∷ xs) k =
    let first = stamp tick (n + x + 1) (begin_lines began) in
    ap (λ (rest : List Stamped). first ++ rest) (begins-more tick n began xs k) ∙ sym (append_assoc first (begins_lines tick n began xs) _)

-- the tick stays
steps_keep_tick : (s : State) → (processor_step s).state.tick ≡ s.tick
steps_keep_tick s = (event_moves s Cpu).tick

pub same-tick : (k : ℕ) (s : State) → (after_steps k s).tick ≡ s.tick
same-tick zero s = refl
same-tick (suc k) s = same-tick k (processor_step s).state ∙ steps_keep_tick s

-- their numbers are below that of the steps, and there are no more
each-wider : (n : ℕ) (xs : List ℕ) → Each (λ k. k < n) xs → Each (λ k. k < suc n) xs
each-wider n [] h = tt
each-wider n (x ∷ xs) h = (omega (arith, h.0), each-wider n xs h.1)

each-put : (n : ℕ) (xs : List ℕ) (k : ℕ) → Each (λ i. i < n) xs → k < n → Each (λ i. i < n) (xs ++ k ∷ [])
each-put n [] k h l = (l, tt)
each-put n (x ∷ xs) k h l = (h.0, each-put n xs k h.1 l)

each-told : (b : Bool) (n : ℕ) (xs : List ℕ) → Each (λ k. k < suc n) xs → Each (λ k. k < suc n) (xs ++ (if b then [] else n ∷ []))
each-told true n xs h = subst (λ (ks : List ℕ). Each (λ k. k < suc n) ks) (sym (append-nil xs)) h
each-told false n xs h = each-put (suc n) xs n h (omega arith)

pub told-below : (n : ℕ) (s : State) → Each (λ k. k < n) (told_steps n s)
told-below zero s = tt
told-below (suc n) s = each-told (is_plain (moment_after n s)) n (told_steps n s) (each-wider n (told_steps n s) (told-below n s))

few-told : (b : Bool) (n : ℕ) (xs : List ℕ) → length xs ≤ n → length (xs ++ (if b then [] else n ∷ [])) ≤ suc n
few-told true n xs h = (let e = ap (λ (ks : List ℕ). length ks) (append-nil xs) in omega arith)
few-told false n xs h = (let e = length-append xs (n ∷ []) in omega arith)

pub told-few : (n : ℕ) (s : State) → length (told_steps n s) ≤ n
told-few zero s = omega arith
told-few (suc n) s = few-told (is_plain (moment_after n s)) n (told_steps n s) (told-few n s)

-- a begin has its line and no other
pub has-begin : (watches : List Watch) (s : State) (began : What) → (processor_step s).answer ≡ plainly began → numbers_at (processor_step s).state.image (map (λ w. w.place) watches) ≡ numbers_at s.image (map (λ w. w.place) watches) → event_lines watches s (processor_step s).state (OfStep (processor_step s).answer) ≡ begin_lines began
has-begin watches s began is same =
    let x = processor_step s in
    let places = map (λ (w : Watch). w.place) watches in
    let sets = set_lines 0 watches s.image x.state.image in
    let no_sets : sets ≡ [] =
    set_lines-changes 0 watches s.image x.state.image
    ∙ ap (λ (now : List ℤ). change_lines 0 (numbers_at s.image places) now) same
    ∙ no-changes 0 (numbers_at s.image places) in
    ap (λ (m : Moment). begin_lines m.what ++ (map FaultLine (drop (length s.faults) x.state.faults) ++ sets)) is
    ∙ ap (λ (fs : List Fault). begin_lines began ++ (map FaultLine fs ++ sets)) (new_faults s Cpu ∙ ap (λ (m : Moment). faults_in m.fault) is)
    ∙ ap (λ (ls : List Line). begin_lines began ++ ls) no_sets
    ∙ append-nil (begin_lines began)

module _ (project : Project) (events : List Event) (places : List Place) (watched : List Bool) (is : places ≡ map (λ w. w.place) project.watches) (lie : AreWatched places watched) where
  abbrev s : State
  s = run project events

  abbrev next : ℕ → State
  next k = (processor_step (after_steps k s)).state

  -- the lines of one step after k others
  abbrev lines_after : ℕ → List Stamped
  lines_after k = stamp (next k).tick (steps_of events + k + 1) (event_lines project.watches (after_steps k s) (next k) (OfStep (moment_after k s)))

  one-line : (k : ℕ) → step_lines project (events ++ replicate k Cpu) 1 ≡ lines_after k
  one-line k =
      append-nil (lines_of_event project.watches (run project (events ++ replicate k Cpu)) (steps_of (events ++ replicate k Cpu)) Cpu)
      ∙ ap (λ (t : State). lines_of_event project.watches t (steps_of (events ++ replicate k Cpu)) Cpu) (run-steps project events k)
      ∙ ap (λ n. lines_of_event project.watches (after_steps k s) n Cpu) (more-steps events k)

  one-more : (k : ℕ) → step_lines project events (suc k) ≡ step_lines project events k ++ lines_after k
  one-more k =
      let next_one : k + 1 ≡ suc k = omega arith in
      ap (step_lines project events) (sym next_one)
      ∙ sym (lines-join project events k 1)
      ∙ ap (λ (ls : List Stamped). step_lines project events k ++ ls) (one-line k)

  numbers-after : (m : ℕ) → ((k : ℕ) → k ≤ m → SameInWatched watched s.image (after_steps k s).image) → (k : ℕ) → k < m → numbers_at (next k).image (map (λ w. w.place) project.watches) ≡ numbers_at (after_steps k s).image (map (λ w. w.place) project.watches)
  numbers-after m same k below =
      let numbers : (i : ℕ) → i ≤ m → numbers_at (after_steps i s).image (map (λ w. w.place) project.watches) ≡ numbers_at s.image (map (λ w. w.place) project.watches) =
      (λ i below. ap (numbers_at (after_steps i s).image) (sym is) ∙ numbers-stay watched s.image (after_steps i s).image places (same i below) lie ∙ ap (numbers_at s.image) is) in
      ap (λ (t : State). numbers_at t.image (map (λ w. w.place) project.watches)) (sym (last-step k s)) ∙ numbers (suc k) (omega arith) ∙ sym (numbers k (omega arith))

  -- one step's lines are those of its begin, if it is one
  told-line : (began : What) (k : ℕ) (b : Bool) → is_plain (moment_after k s) ≡ b → (b ≡ false → moment_after k s ≡ plainly began) → numbers_at (next k).image (map (λ w. w.place) project.watches) ≡ numbers_at (after_steps k s).image (map (λ w. w.place) project.watches)
      → (xs : List ℕ) → begins_lines s.tick (steps_of events) began xs ++ lines_after k ≡ begins_lines s.tick (steps_of events) began (xs ++ (if b then [] else k ∷ []))
  told-line began k true plain told same xs =
      let all = begins_lines s.tick (steps_of events) began xs in
      ap (λ (ls : List Line). all ++ stamp (next k).tick (steps_of events + k + 1) ls) (has-no-line project.watches (after_steps k s) plain same)
      ∙ append-nil all
      ∙ ap (begins_lines s.tick (steps_of events) began) (sym (append-nil xs))
  told-line began k false plain told same xs =
      let all = begins_lines s.tick (steps_of events) began xs in
      ap (λ (ls : List Line). all ++ stamp (next k).tick (steps_of events + k + 1) ls) (has-begin project.watches (after_steps k s) began (told refl) same)
      ∙ ap (λ n. all ++ stamp n (steps_of events + k + 1) (begin_lines began)) (steps_keep_tick (after_steps k s) ∙ same-tick k s)
      ∙ sym (begins-more s.tick (steps_of events) began xs k)

  -- steps that leave the bytes of watched words: those of which something is told begin the same
  pub told-lines : (began : What) (m : ℕ) → ((k : ℕ) → k < m → is_plain (moment_after k s) ≡ false → moment_after k s ≡ plainly began) → ((k : ℕ) → k ≤ m → SameInWatched watched s.image (after_steps k s).image)
      → step_lines project events m ≡ begins_lines s.tick (steps_of events) began (told_steps m s)
  told-lines began zero told same = refl
  told-lines began (suc m) told same =
      one-more m
      ∙ (ap (λ (ls : List Stamped). ls ++ lines_after m) (told-lines began m (λ k below. told k (omega arith)) (λ k below. same k (omega arith)))
      ∙ told-line began m (is_plain (moment_after m s)) refl (told m (omega arith)) (numbers-after (suc m) same m (omega arith)) (told_steps m s))
