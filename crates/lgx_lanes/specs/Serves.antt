-- What a turn of a lane does to the progress of the lanes.
use Rattle.std.specs.Prelude.{◌≡◌, ℕ, ◌+◌, List, [], ◌∷◌, ◌++◌, sum, true, false, None, IsSomeAnd, IsTrue}
use Rattle.spec_machine.specs.declared.event.Event.{Event}
use Rattle.spec_machine.specs.declared.event.Event.TheVariants.{Act}
use Rattle.spec_machine.specs.Events.{is_accept, steps_of}
use Rattle.spec_machine.specs.Project.{Project}
use Rattle.spec_text.specs.Scripts.{Script}
use Rattle.spec_lanes.specs.Turns.{due_action, is_spent, paced_step}
use Rattle.spec_lanes.specs.Laws.{with_one_more}
use Rattle.lgx_lanes.specs.declared.turn.Turn.{Turn}
use Rattle.lgx_lanes.specs.Turns.{MatchTurn}
use Rattle.lgx_lanes.specs.Progress.{Progress}

-- these events came, and the lanes have these counts
pub record Goes (old new : Progress) (events : List Event) (done : List ℕ) : Type 0 where
  pub events_are : new.events ≡ old.events ++ events
  pub counts_are : new.counts ≡ done

-- An action that is due is made, as the only event, unless it is an accept without memory. With none due a processor step is
-- made, and its tick, until the steps are spent; then nothing is.
abbrev pub Serves : Project → Script → ℕ → Progress → Turn → Progress → Type 0
Serves project script lane old turn new =
    let due = due_action project script old.events lane in
    let spent = is_spent project script old.events in
    MatchTurn turn
    (IsSomeAnd due (λ action. Goes old new (Act lane action ∷ []) (with_one_more old.counts lane)))
    ((due ≡ None) × (spent ≡ false) × Goes old new (paced_step script.pace (steps_of old.events + 1)) old.counts)
    ((due ≡ None) × (spent ≡ true) × (new ≡ old))
    (IsSomeAnd due (λ action. IsTrue (is_accept action)) × (new ≡ old))

-- What a turn adds to the counts of the lanes together and to the processor steps. A step is made until the steps are spent;
-- an action leaves them spent.
abbrev pub Adds : Project → Script → Progress → Turn → Progress → Type 0
Adds project script old turn new =
    MatchTurn turn
    ((sum new.counts ≡ sum old.counts + 1) × (steps_of new.events ≡ steps_of old.events) × (is_spent project script old.events ≡ true → is_spent project script new.events ≡ true))
    ((sum new.counts ≡ sum old.counts) × (steps_of new.events ≡ steps_of old.events + 1) × (is_spent project script old.events ≡ false))
    ((new ≡ old) × (is_spent project script old.events ≡ true))
    (new ≡ old)
