-- What a gate was asked for, publish after publish and station after station.
use Rattle.std.proofs.Common.{◌≡◌, ℕ, ◌+◌, ◌-◌, ◌≤◌, ◌<◌, Bool, List, [], ◌∷◌, ◌++◌, length, refl, sym, ap, ◌∙◌, subst, ◌⊎◌, inl, inr, arith}
use Rattle.std.specs.Prelude.{if◌then◌else◌, slice_get, Option, None, Some}
use Rattle.std.proofs.lemmas.Bool.{cases_lt, lt-ltb, le-ltb}
use Rattle.std.proofs.lemmas.List.{length-take, length_push, get_or_push}
use Rattle.std.proofs.lemmas.Option.{slice_get-get_or}
use Rattle.spec_machine.specs.declared.event.Event.{Event}
use Rattle.spec_machine.specs.declared.event.Event.TheVariants.{Tick}
use Rattle.spec_machine.specs.Machine.{run}
use Rattle.spec_machine.specs.Project.{Project}
use Rattle.spec_machine.specs.State.{start}
use Rattle.spec_board.specs.declared.snapshot.TheConstants.{MAX_SNAPSHOTS}
use Rattle.spec_board.specs.declared.snapshot.Snapshot.{Snapshot}
use Rattle.spec_board.specs.Stories.{with_next}
use Rattle.spec_story.specs.Snapshots.{snapshot, snapshots_from, snapshots}
use Rattle.spec_story.proofs.Stories.{ticks_add_one, ticks_are_numbers}
use Rattle.lgx_stations.specs.declared.reported.Reported.{Reported}
use Rattle.lgx_stations.specs.Asking.{ForPublishes}
use Rattle.lgx_stations.specs.Telling.{IsAt, IsFirstOf, first_kept}

-- ---- publishes

-- where no more was published nothing is to be asked
pub none_published : (Asked : ℕ → Type 0) (n m : ℕ) → m ≤ n → ForPublishes Asked n m
none_published Asked n m few k from to = absurd (omega (arith, few, from, to))

pub publishes_on : (Asked : ℕ → Type 0) (n m l : ℕ) → ForPublishes Asked n m → ForPublishes Asked m l → ForPublishes Asked n l
publishes_on Asked n m l before after k from to =
    elim (cases_lt (k + 1) m) [
      | inl less ↦ before k from less
      | inr more ↦ after k more to
    ]

-- the one publish from a length to the next
one_published : (Asked : ℕ → Type 0) (n m at : ℕ) → m ≤ n + 1 → (m ≡ n + 1 → at + 1 ≡ n) → Asked at → ForPublishes Asked n m
one_published Asked n m at most is asked k from to =
    let next : m ≡ n + 1 = omega (arith, most, from, to) in
    let here = is next in
    let same : at ≡ k = omega (arith, most, from, to, here) in
    subst Asked same asked

-- The tick of what is published is its number in the story: so the gate was asked for this publish.
module _ (p : Project) (journal : List Event) (r : Reported) (board : List Snapshot) (left : List Event) (h : IsAt p journal r board (Tick ∷ left)) (x : Snapshot) (is : x ≡ snapshot p (run p (h.made ++ Tick ∷ []))) (after : List Snapshot) (added : after ≡ with_next board x) where
  one_more : length board < MAX_SNAPSHOTS → after ≡ board ++ x ∷ []
  one_more less = added ∙ ap (λ (b : Bool). if b then board ++ x ∷ [] else board) (lt-ltb (length board) MAX_SNAPSHOTS less)

  is_story : after ≡ snapshots p (h.made ++ Tick ∷ [])
  is_story =
      added ∙ (ap (λ (y : Snapshot). with_next board y) is ∙ (ap (λ (b : List Snapshot). with_next b (snapshot p (run p (h.made ++ Tick ∷ [])))) h.told ∙ sym (ticks_add_one p h.made)))

  tick_is : length board < MAX_SNAPSHOTS → x.tick ≡ length board
  tick_is less =
      let n = length board in
      let is_long : length (board ++ x ∷ []) ≡ n + 1 = length_push board x in
      let found : slice_get (board ++ x ∷ []) n ≡ Some x =
      slice_get-get_or (board ++ x ∷ []) n x (omega (arith, is_long)) ∙ ap (λ (y : Snapshot). Some y) (get_or_push board x x n refl) in
      ticks_are_numbers p (h.made ++ Tick ∷ []) n x (subst (λ (l : List Snapshot). slice_get l n ≡ Some x) (sym (one_more less) ∙ is_story) found)

  begun : 0 < length board
  begun =
      let all = snapshot p (start p) ∷ snapshots_from p (start p) h.made in
      let cut = length-take MAX_SNAPSHOTS all in
      let told = ap (λ (l : List Snapshot). length l) h.told in
      omega (arith, cut, told)

  pub publish_asked : (Asked : ℕ → Type 0) (at : ℕ) → at ≡ x.tick - 1 → Asked at → ForPublishes Asked (length board) (length after)
  publish_asked Asked at here asked =
      elim (cases_lt (length board) MAX_SNAPSHOTS) [
        | inl less ↦ (
            let long : length after ≡ length board + 1 = ap (λ (l : List Snapshot). length l) (one_more less) ∙ length_push board x in
            let tick = tick_is less in
            one_published Asked (length board) (length after) at (omega (arith, long)) (λ _. omega (arith, here, tick, begun)) asked)
        | inr full ↦ (
            let same : after ≡ board = added ∙ ap (λ (b : Bool). if b then board ++ x ∷ [] else board) (le-ltb (length board) MAX_SNAPSHOTS full) in
            let long = ap (λ (l : List Snapshot). length l) same in
            none_published Asked (length board) (length after) (omega (arith, long)))
      ]

-- ---- reads

-- some element of a list that has one
pub any_of : {A : Type 0} (xs : List A) → 0 < length xs → A
any_of [] some = absurd (omega (arith, some))
any_of (x ∷ xs) some = x

-- what is kept is of the story
pub kept_of : (story : List Snapshot) (first next : Option Snapshot) → (first ≡ None) ⊎ IsFirstOf story first → IsFirstOf story next → IsFirstOf story (first_kept first next)
kept_of story None next before now = now
kept_of story (Some x) next (inl none) now = absurd (cc none)
kept_of story (Some x) next (inr kept) now = kept
