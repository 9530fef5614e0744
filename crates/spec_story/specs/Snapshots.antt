-- The story of a run: its watched values right after each tick.
use Rattle.std.specs.Prelude.{◌≡◌, ℕ, List, [], ◌∷◌, ◌++◌, map, take, slice_get, false, if◌then◌else◌, Some}
use Rattle.lgx_num.specs.Image.{number}
use Rattle.spec_machine.specs.declared.event.Event.{Event}
use Rattle.spec_machine.specs.declared.event.Event.TheVariants.{Tick}
use Rattle.spec_machine.specs.Events.{is_tick}
use Rattle.spec_machine.specs.Machine.{run, step}
use Rattle.spec_machine.specs.Project.{Project}
use Rattle.spec_machine.specs.State.{State, start}
use Rattle.spec_board.specs.declared.snapshot.TheConstants.{MAX_SNAPSHOTS}
use Rattle.spec_board.specs.declared.snapshot.Snapshot.{Snapshot}
use Rattle.spec_board.specs.Stories.{IsPrefix, with_next}

-- the tick of a state, and its watched values
abbrev pub snapshot : Project → State → Snapshot
snapshot p s = record { tick = s.tick; values = map (λ w. number s.image w.place) p.watches }

-- one right after each tick among these events
abbrev pub snapshots_from : Project → State → List Event → List Snapshot
snapshots_from p s [] = []
snapshots_from p s (e ∷ es) =
    let next = (step s e).state in
    if is_tick e then snapshot p next ∷ snapshots_from p next es else snapshots_from p next es

-- the opening snapshot, and then that of each tick, all cut after the most that are published
abbrev pub snapshots : Project → List Event → List Snapshot
snapshots p journal = take MAX_SNAPSHOTS (snapshot p (start p) ∷ snapshots_from p (start p) journal)

-- ---- laws

-- a longer journal's story begins with that of the shorter one
abbrev pub StoriesGoOn : Type 0
StoriesGoOn = (p : Project) (journal more : List Event) → IsPrefix (snapshots p journal) (snapshots p (journal ++ more))

-- a tick adds its snapshot, as long as there is room
abbrev pub TicksAddOne : Type 0
TicksAddOne = (p : Project) (journal : List Event) → snapshots p (journal ++ Tick ∷ []) ≡ with_next (snapshots p journal) (snapshot p (run p (journal ++ Tick ∷ [])))

-- no other event adds one
abbrev pub OthersAddNone : Type 0
OthersAddNone = (p : Project) (journal : List Event) (e : Event) → is_tick e ≡ false → snapshots p (journal ++ e ∷ []) ≡ snapshots p journal

-- each snapshot's tick is its number in the story, so a tick names one snapshot
abbrev pub TicksAreNumbers : Type 0
TicksAreNumbers = (p : Project) (journal : List Event) (i : ℕ) (x : Snapshot) → slice_get (snapshots p journal) i ≡ Some x → x.tick ≡ i
