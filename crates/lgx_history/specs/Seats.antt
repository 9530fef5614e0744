-- The rule under which a history is seen, by what each seat knows.
use Rattle.std.specs.Prelude.{◌≡◌, ℕ, List, [], true, false}
use mathlib.Core.List.{IsPrefix}
use mathlib.Core.Option.{some}
use lib.ListN.{get_elem?}
use Rattle.spec_machine.specs.declared.event.Event.{Event}
use Rattle.lgx_history.specs.declared.rule.Known.{Known}

-- the keeper, who knows all events so far
abbrev pub knower : List Event → Known
knower all = record { keeps = true; all = all; seen = [] }

-- a seat that has seen these events
abbrev pub seer : List Event → Known
seer seen = record { keeps = false; all = []; seen = seen }

-- the same seat, and these events are seen
abbrev pub with_seen : Known → List Event → Known
with_seen v seen = record { keeps = v.keeps; all = v.all; seen = seen }

-- a seat's part of the rule, where these are all events so far and this one is the keeper's seat
pub record IsBeginning (all : List Event) (keeps seat : ℕ) (v : Known) : Type 0 where
  pub keeper : v.keeps ≡ true → (seat ≡ keeps) × (v.all ≡ all)
  pub seen : IsPrefix v.seen all

-- one seat at most knows all events so far, and what any has seen is a beginning of them
pub record AreBeginnings (views : List Known) : Type 0 where
  pub all : List Event
  pub keeps : ℕ
  pub each : (seat : ℕ) (v : Known) → get_elem? views seat ≡ some v → IsBeginning all keeps seat v

-- the keeper's history has gone on to these events; what was seen is a beginning of those before
pub record HasGoneOn (events : List Event) (before : Known) (after : Known × List (ℕ × Unit {0})) : Type 0 where
  pub keeper : after.0 ≡ knower events
  pub seen : IsPrefix before.seen before.all
