-- The turn law in its own words: relations over places of a counted trace. `Legal` has the tests that decide them.
use Rattle.std.specs.Prelude.{◌≡◌, ℕ, true, false, List, ◌∷◌, ◌++◌, Some, ◌↔◌}
use Rattle.std.specs.List.{AllByRecursion as Each}
use Rattle.spec_schedule.specs.declared.trace.Table.{Table}
use Rattle.spec_schedule.specs.Counting.{CountedTask, counted_tasks, CountedEvent, stepping}
use Rattle.spec_schedule.specs.Legal.{priority_of, is_tick, is_action, stays_up, is_turn, each_from, keeps_turn, gives_way}

-- ---- between two steps of a task

-- a place y after a place x that is no tick, and up to which t hasn't gone down
pub record IsSameTurn (t : ℕ) (x y : CountedEvent) : Type 0 where
  pub no_tick : is_tick y.event ≡ false
  pub up : stays_up t x y ≡ true

-- t steps, then u, and then t again; up to there t stays up, and no tick comes
pub record StepsBetween (xs : List CountedEvent) (t u : ℕ) : Type 0 where
  pub before : List CountedEvent
  pub first : CountedEvent
  pub between : List CountedEvent
  pub other : CountedEvent
  pub after : List CountedEvent
  pub again : CountedEvent
  pub rest : List CountedEvent
  pub places : xs ≡ before ++ first ∷ (between ++ other ∷ (after ++ again ∷ rest))
  pub first_steps : stepping first.event ≡ Some t
  pub other_steps : stepping other.event ≡ Some u
  pub again_steps : stepping again.event ≡ Some t
  pub between_same : Each (IsSameTurn t first) between
  pub other_same : IsSameTurn t first other
  pub after_same : Each (IsSameTurn t first) after
  pub again_same : IsSameTurn t first again

-- from one step of a task to its next, as long as it stays up and no tick comes, it alone steps of its priority
abbrev pub KeepsTurns : Table → List CountedEvent → Type 0
KeepsTurns table xs = (t u : ℕ) → StepsBetween xs t u → priority_of table u ≡ priority_of table t → u ≡ t

-- ---- over a tick

-- t steps; a tick follows with actions alone between them, at which t could be passed over; t steps again before the next
pub record StepsOverTick (table : Table) (xs : List CountedEvent) (t : ℕ) : Type 0 where
  pub before : List CountedEvent
  pub first : CountedEvent
  pub actions : List CountedEvent
  pub tick : CountedEvent
  pub between : List CountedEvent
  pub again : CountedEvent
  pub rest : List CountedEvent
  pub places : xs ≡ before ++ first ∷ (actions ++ tick ∷ (between ++ again ∷ rest))
  pub first_steps : stepping first.event ≡ Some t
  pub only_actions : Each (λ y. is_action y.event ≡ true) actions
  pub ticks : is_tick tick.event ≡ true
  pub could_pass : is_turn table t first tick ≡ true
  pub no_tick : Each (λ y. is_tick y.event ≡ false) between
  pub again_steps : stepping again.event ≡ Some t

-- u was up just before the tick and has t's priority: it is t, or it has gone down since
abbrev pub HasGoneDown : Table → ℕ → CountedEvent → CountedEvent → CountedTask → Type 0
HasGoneDown table t tick again u = u.counts.up ≡ true → u.task.priority ≡ priority_of table t → (u.number ≡ t → ⊥) → stays_up u.number tick again ≡ false

-- t steps again only after every other task of its priority that was up just before the tick has gone down
abbrev pub GivesWay : Table → List CountedEvent → Type 0
GivesWay table xs = (t : ℕ) (s : StepsOverTick table xs t) → Each (HasGoneDown table t s.tick s.again) (counted_tasks table.tasks s.tick.tasks)

-- ---- the tests decide them

abbrev pub TurnsAreDecided : Type 0
TurnsAreDecided = (table : Table) (xs : List CountedEvent) → (each_from (keeps_turn table) xs ≡ true) ↔ KeepsTurns table xs

abbrev pub WaysAreDecided : Type 0
WaysAreDecided = (table : Table) (xs : List CountedEvent) → (each_from (gives_way table) xs ≡ true) ↔ GivesWay table xs
