-- How the story of a run goes on.
use Rattle.std.proofs.Common.{◌≡◌, ℕ, zero, suc, ◌+◌, ◌≤◌, ◌<◌, Bool, true, false, List, [], ◌∷◌, ◌++◌, length, take, cond, refl, sym, ◌∙◌, ap, ⊎_elim, arith}
use Rattle.std.specs.Prelude.{nat_lt, if◌then◌else◌, slice_get, Some}
use Rattle.std.proofs.lemmas.Bool.{cases_lt, lt-ltb, le-ltb}
use Rattle.std.proofs.lemmas.List.{append-nil, take_all, take-append-le, length-append, length-take-le}
use Rattle.std.proofs.lemmas.Option.{same_Some}
use Rattle.spec_reach.proofs.Grows.{event_moves}
use Rattle.spec_machine.specs.declared.event.Event.{Event}
use Rattle.spec_machine.specs.declared.event.Event.TheVariants.{Cpu, Tick, Act}
use Rattle.spec_machine.specs.Events.{is_tick}
use Rattle.spec_machine.specs.Machine.{run, run_from, step}
use Rattle.spec_machine.specs.Project.{Project}
use Rattle.spec_machine.specs.State.{State, start}
use Rattle.spec_board.specs.declared.snapshot.TheConstants.{MAX_SNAPSHOTS}
use Rattle.spec_board.specs.declared.snapshot.Snapshot.{Snapshot}
use Rattle.spec_board.specs.Stories.{with_next}
use Rattle.spec_story.specs.Snapshots.{snapshot, snapshots_from, snapshots, StoriesGoOn, TicksAddOne, OthersAddNone, TicksAreNumbers}

run_over : (s : State) (xs ys : List Event) → run_from s (xs ++ ys) ≡ run_from (run_from s xs) ys
run_over s [] ys = refl
run_over s (x ∷ xs) ys = run_over (step s x).state xs ys

-- the snapshots of a journal that goes on
over : (p : Project) (s : State) (xs ys : List Event) → snapshots_from p s (xs ++ ys) ≡ snapshots_from p s xs ++ snapshots_from p (run_from s xs) ys
over p s [] ys = refl
over p s (x ∷ xs) ys = go (is_tick x) (over p (step s x).state xs ys)
  where
    go : (b : Bool) → snapshots_from p (step s x).state (xs ++ ys) ≡ snapshots_from p (step s x).state xs ++ snapshots_from p (run_from (step s x).state xs) ys
        → (if b then snapshot p (step s x).state ∷ snapshots_from p (step s x).state (xs ++ ys) else snapshots_from p (step s x).state (xs ++ ys))
        ≡ (if b then snapshot p (step s x).state ∷ snapshots_from p (step s x).state xs else snapshots_from p (step s x).state xs) ++ snapshots_from p (run_from (step s x).state xs) ys
    go true rest = ap (λ (l : List Snapshot). snapshot p (step s x).state ∷ l) rest
    go false rest = rest

-- a cut list begins a longer list that is cut
cut_prefix : {A : Type 0} (n : ℕ) (xs ys : List A) → take n xs ≡ take (length (take n xs)) (take n (xs ++ ys))
cut_prefix zero xs ys = refl
cut_prefix (suc n) [] ys = refl
cut_prefix (suc n) (x ∷ xs) ys = ap (λ (l : List _). x ∷ l) (cut_prefix n xs ys)

pub stories_go_on : StoriesGoOn
stories_go_on p journal more =
    let all = snapshot p (start p) ∷ snapshots_from p (start p) journal in
    let rest = snapshots_from p (run p journal) more in
    cut_prefix MAX_SNAPSHOTS all rest
    ∙ ap (λ (l : List Snapshot). take (length (take MAX_SNAPSHOTS all)) (take MAX_SNAPSHOTS (snapshot p (start p) ∷ l))) (sym (over p (start p) journal more))

-- one more behind a list that is cut
cut_next : {A : Type 0} (n : ℕ) (xs : List A) (x : A) → take n (xs ++ x ∷ []) ≡ (if nat_lt (length (take n xs)) n then take n xs ++ x ∷ [] else take n xs)
cut_next n xs x =
    ⊎_elim
    (λ (less : length xs < n).
    let whole : take n xs ≡ xs = take_all n xs (omega arith) in
    take_all n (xs ++ x ∷ []) (let m = length-append xs (x ∷ []) in omega arith)
    ∙ sym (ap (λ (l : List _). if nat_lt (length l) n then l ++ x ∷ [] else l) whole ∙ ap (λ (b : Bool). if b then xs ++ x ∷ [] else xs) (lt-ltb (length xs) n less)))
    (λ (more : n ≤ length xs).
    let many : length (take n xs) ≡ n = length-take-le n xs more in
    take-append-le n xs (x ∷ []) more
    ∙ sym (ap (λ (b : Bool). if b then take n xs ++ x ∷ [] else take n xs) (le-ltb (length (take n xs)) n (omega arith))))
    (cases_lt (length xs) n)

pub ticks_add_one : TicksAddOne
ticks_add_one p journal =
    ap (λ (l : List Snapshot). take MAX_SNAPSHOTS (snapshot p (start p) ∷ l)) (over p (start p) journal (Tick ∷ []))
    ∙ (cut_next MAX_SNAPSHOTS (snapshot p (start p) ∷ snapshots_from p (start p) journal) (snapshot p (step (run p journal) Tick).state)
    ∙ ap (λ (s : State). with_next (snapshots p journal) (snapshot p s)) (sym (run_over (start p) journal (Tick ∷ []))))

none_of : (p : Project) (s : State) (e : Event) → is_tick e ≡ false → snapshots_from p s (e ∷ []) ≡ []
none_of p s e h = ap (λ (b : Bool). if b then snapshot p (step s e).state ∷ [] else []) h

pub others_add_none : OthersAddNone
others_add_none p journal e h =
    ap (λ (l : List Snapshot). take MAX_SNAPSHOTS (snapshot p (start p) ∷ l))
    (over p (start p) journal (e ∷ []) ∙ (ap (λ (l : List Snapshot). snapshots_from p (start p) journal ++ l) (none_of p (run p journal) e h) ∙ append-nil _))

-- ---- ticks

clock : (s : State) (e : Event) → (step s e).state.tick ≡ s.tick + cond (is_tick e) 1 0
clock s Cpu = let a = (event_moves s Cpu).tick in omega arith
clock s Tick = let a = (event_moves s Tick).tick in omega arith
clock s (Act lane a) = let b = (event_moves s (Act lane a)).tick in omega arith

ticks_from : (p : Project) (s : State) (es : List Event) (i : ℕ) (x : Snapshot) → slice_get (snapshots_from p s es) i ≡ Some x → x.tick ≡ s.tick + 1 + i
ticks_from p s [] i x h = absurd (cc h)
ticks_from p s (e ∷ es) i x h = go (is_tick e) (clock s e) (ticks_from p (step s e).state es) i h
  where
    go : (b : Bool) → (step s e).state.tick ≡ s.tick + cond b 1 0 → ((k : ℕ) (y : Snapshot) → slice_get (snapshots_from p (step s e).state es) k ≡ Some y → y.tick ≡ (step s e).state.tick + 1 + k)
        → (k : ℕ) → slice_get (if b then snapshot p (step s e).state ∷ snapshots_from p (step s e).state es else snapshots_from p (step s e).state es) k ≡ Some x → x.tick ≡ s.tick + 1 + k
    go true now rest zero at = let is = ap (λ (y : Snapshot). y.tick) (same_Some _ _ at) in omega arith
    go true now rest (suc k) at = let is = rest k x at in omega arith
    go false now rest k at = let is = rest k x at in omega arith

get_cut : {A : Type 0} (n : ℕ) (xs : List A) (i : ℕ) (x : A) → slice_get (take n xs) i ≡ Some x → slice_get xs i ≡ Some x
get_cut zero xs i x h = absurd (cc h)
get_cut (suc n) [] i x h = absurd (cc h)
get_cut (suc n) (y ∷ xs) zero x h = h
get_cut (suc n) (y ∷ xs) (suc i) x h = get_cut n xs i x h

pub ticks_are_numbers : TicksAreNumbers
ticks_are_numbers p journal i x h = go i (get_cut MAX_SNAPSHOTS (snapshot p (start p) ∷ snapshots_from p (start p) journal) i x h)
  where
    go : (k : ℕ) → slice_get (snapshot p (start p) ∷ snapshots_from p (start p) journal) k ≡ Some x → x.tick ≡ k
    go zero at = ap (λ (y : Snapshot). y.tick) (sym (same_Some _ _ at))
    go (suc k) at = let is = ticks_from p (start p) journal k x at in omega arith
