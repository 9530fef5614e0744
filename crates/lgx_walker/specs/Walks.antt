-- What a walker stands for, and what it keeps.
use Rattle.std.specs.Prelude.{◌≡◌, ℕ, List, map}
use Rattle.lgx_num.specs.declared.place.Place.{Place}
use Rattle.spec_machine.specs.declared.event.Event.{Event}
use Rattle.spec_machine.specs.Events.{steps_of}
use Rattle.spec_machine.specs.Project.{Project, Watch}
use Rattle.spec_text.specs.Scripts.{Script}
use Rattle.lgx_core.specs.Represents.{StandsFor}
use Rattle.lgx_walker.specs.declared.valued.ValuedController.{ValuedController}
use Rattle.lgx_walker.specs.declared.walker.Walker.{Walker}
use Rattle.lgx_walker.specs.Trails.{journal_of}

abbrev pub places_of : Project → List Place
places_of p = map (λ (w : Watch). w.place) p.watches

-- it has the project's watched places, and its controller stands for the journal
pub record Watches (watcher : ValuedController) (p : Project) (journal : List Event) : Type 0 where
  pub places_are : watcher.places ≡ places_of p
  pub stands_for : StandsFor p journal watcher.controller

-- it has counted the lanes' actions and the processor steps of the journal, which it watches
pub record Walks (walker : Walker) (p : Project) (counts : List ℕ) (journal : List Event) : Type 0 where
  pub counts_are : walker.trail.counts ≡ counts
  pub steps_are : walker.trail.steps ≡ steps_of journal
  pub watches : Watches walker.watcher p journal

-- the counts and the journal of its trail
abbrev pub walked : Walker → Script → List ℕ × List Event
walked walker script = (walker.trail.counts, journal_of script walker.trail.placed walker.trail.since)
