-- Views of tasks where one task is changed, and where all are.
use Rattle.std.proofs.Common.{◌≡◌, ℕ, zero, suc, ◌<◌, Bool, true, false, cond, List, [], ◌∷◌, length, map, Option, Some, None, refl, sym, ◌∙◌, ap, arith, get_or-set_same, get_or-set_other, eq-eqb}
use Rattle.std.specs.Prelude.{is_some, nat_eq, slice_set, slice_index_or}
use Rattle.std.proofs.lemmas.Bool.{ne_eqb}
use Rattle.spec_tables.specs.declared.task.Release.TheVariants.{Released, Overlap, Inhibited}
use Rattle.spec_tables.specs.Tasks.{TaskState, Table, state_of, task, is_up, release_answer, chosen}
use Rattle.spec_tables.proofs.StateLists.{chosen_up}
use Rattle.spec_machine.specs.Project.{Project}
use Rattle.spec_machine.specs.State.{State, Progress, no_progress, dropped}
use Rattle.spec_reach.proofs.Changes.{view_at, Known}

-- ---- one task changed

-- a state and a progress put in place of task t's
pub own_view : (us : List (Option TaskState)) (ps : List Progress) (t : ℕ) (u : Option TaskState) (q : Progress) → t < length us → t < length ps → view_at (slice_index_or (slice_set us t u) t None) (slice_index_or (slice_set ps t q) t no_progress) ≡ view_at u q
own_view us ps t u q lu lp = ap (λ x. view_at x (slice_index_or (slice_set ps t q) t no_progress)) (get_or-set_same us t u None lu) ∙ ap (view_at u) (get_or-set_same ps t q no_progress lp)

pub own_progress : (u : Option TaskState) (ps : List Progress) (t : ℕ) (q : Progress) → t < length ps → view_at u (slice_index_or (slice_set ps t q) t no_progress) ≡ view_at u q
own_progress u ps t q lp = ap (view_at u) (get_or-set_same ps t q no_progress lp)

pub other_view : (us : List (Option TaskState)) (ps : List Progress) (t k : ℕ) (u : Option TaskState) (q : Progress) → (k ≡ t → ⊥) → view_at (slice_index_or (slice_set us t u) k None) (slice_index_or (slice_set ps t q) k no_progress) ≡ view_at (slice_index_or us k None) (slice_index_or ps k no_progress)
other_view us ps t k u q ne = ap (λ x. view_at x (slice_index_or (slice_set ps t q) k no_progress)) (get_or-set_other us t k u None ne) ∙ ap (view_at (slice_index_or us k None)) (get_or-set_other ps t k q no_progress ne)

pub other_progress : (u : Option TaskState) (ps : List Progress) (t k : ℕ) (q : Progress) → (k ≡ t → ⊥) → view_at u (slice_index_or (slice_set ps t q) k no_progress) ≡ view_at u (slice_index_or ps k no_progress)
other_progress u ps t k q ne = ap (view_at u) (get_or-set_other ps t k q no_progress ne)

pub other_state : (us : List (Option TaskState)) (t k : ℕ) (u : Option TaskState) (q : Progress) → (k ≡ t → ⊥) → view_at (slice_index_or (slice_set us t u) k None) q ≡ view_at (slice_index_or us k None) q
other_state us t k u q ne = ap (λ x. view_at x q) (get_or-set_other us t k u None ne)

-- ---- all tasks down

pub down_state : {A : Type 0} (us : List A) (k : ℕ) → slice_index_or (map (λ u. let x : Option TaskState = None in x) us) k None ≡ None
down_state [] k = refl
down_state (u ∷ us) zero = refl
down_state (u ∷ us) (suc k) = down_state us k

pub dropped_view : (ps : List Progress) (k : ℕ) → view_at None (slice_index_or (map dropped ps) k no_progress) ≡ record { state = None; ended = 0; scan = None }
dropped_view [] k = refl
dropped_view (p ∷ ps) zero = refl
dropped_view (p ∷ ps) (suc k) = dropped_view ps k

-- the machine's stop
pub all_down_view : (us : List (Option TaskState)) (ps : List Progress) (k : ℕ) → view_at (slice_index_or (map (λ u. let x : Option TaskState = None in x) us) k None) (slice_index_or (map dropped ps) k no_progress) ≡ record { state = None; ended = 0; scan = None }
all_down_view us ps k = ap (λ x. view_at x (slice_index_or (map dropped ps) k no_progress)) (down_state us k) ∙ dropped_view ps k

pub cleared_progress : {A : Type 0} (ps : List A) (k : ℕ) → slice_index_or (map (λ p. no_progress) ps) k no_progress ≡ no_progress
cleared_progress [] k = refl
cleared_progress (p ∷ ps) zero = refl
cleared_progress (p ∷ ps) (suc k) = cleared_progress ps k

-- ---- tests of numbers

pub same_number : {A : Type 0} (t : ℕ) (x y : A) → cond (nat_eq t t) x y ≡ x
same_number t x y = ap (λ b. cond b x y) (eq-eqb t t refl)

pub other_number : {A : Type 0} (t k : ℕ) (x y : A) → (k ≡ t → ⊥) → cond (nat_eq t k) x y ≡ y
other_number t k x y ne = ap (λ b. cond b x y) (ne_eqb t k (λ e. ne (sym e)))

-- ---- releases

-- a task that is up, and isn't inhibited, overlaps
pub up_overlaps : (s : Table) (t : ℕ) (u : TaskState) → state_of s t ≡ Some u → (task s t).inhibited ≡ false → release_answer s t ≡ Overlap
up_overlaps s t u up free = ap (λ b. cond b Inhibited (cond (is_up s t) Overlap Released)) free ∙ ap (λ o. cond (is_some o) Overlap Released) up

-- what is released was down
pub released_down : (s : Table) (t : ℕ) → release_answer s t ≡ Released → state_of s t ≡ None
released_down s t h = go (task s t).inhibited (state_of s t) h
  where
    go : (b : Bool) (o : Option TaskState) → cond b Inhibited (cond (is_some o) Overlap Released) ≡ Released → o ≡ None
    go true o h = absurd (cc h)
    go false None h = refl
    go false (Some u) h = absurd (cc h)

pub answered_inhibited : (s : Table) (t : ℕ) → release_answer s t ≡ Inhibited → (task s t).inhibited ≡ true
answered_inhibited s t h = go (task s t).inhibited (state_of s t) h
  where
    go : (b : Bool) (o : Option TaskState) → cond b Inhibited (cond (is_some o) Overlap Released) ≡ Inhibited → b ≡ true
    go true o h = refl
    go false None h = absurd (cc h)
    go false (Some u) h = absurd (cc h)

-- ---- the chosen task

-- a place of a list with something there is one of its places
pub within_states : (us : List (Option TaskState)) (t : ℕ) (u : TaskState) → slice_index_or us t None ≡ Some u → t < length us
within_states [] t u h = absurd (cc h)
within_states (x ∷ us) zero u h = omega arith
within_states (x ∷ us) (suc t) u h = let r = within_states us t u h in omega arith

-- what is known of the task of a step
pub record IsChosen (p : Project) (s : State) (t : ℕ) : Type 0 where
  pub is : chosen s.table ≡ Some t
  pub state : TaskState
  pub up : state_of s.table t ≡ Some state
  pub in_states : t < length s.table.states
  pub in_progress : t < length s.progress
  pub free : (task s.table t).inhibited ≡ false

pub chosen_known : (p : Project) (s : State) (t : ℕ) → Known p s → chosen s.table ≡ Some t → IsChosen p s t
chosen_known p s t k c =
    let u = chosen_up s.table t c in
    let l = within_states s.table.states t u.0 u.1 in
    record {
      is = c;
      state = u.0;
      up = u.1;
      in_states = l;
      in_progress = (let a = k.sizes.states in let b = k.sizes.progresses in omega arith);
      free = k.orderly.allowed t u.0 u.1;
    }
