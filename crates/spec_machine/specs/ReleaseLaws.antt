-- Laws of releases: they go by the table's answer, and only a task that is released comes up.
use Rattle.std.specs.Prelude.{◌≡◌, ℕ, true}
use Rattle.spec_tables.specs.Tasks.{task, is_up, release_answer, release}
use Rattle.spec_machine.specs.State.{State}
use Rattle.spec_machine.specs.Releases.{AfterRelease, release_task}

abbrev pub IsOfTheTable : State → ℕ → AfterRelease → Type 0
IsOfTheTable s t r = (r.answer ≡ release_answer s.table t) × (r.state.table ≡ release t s.tick s.table)

-- the machine's release is the table's, with the same answer
abbrev pub ReleasesAreOfTheTable : Type 0
ReleasesAreOfTheTable = (s : State) (t : ℕ) → IsOfTheTable s t (release_task t s)

-- at an inhibited task nothing changes
abbrev pub InhibitedChangesNothing : Type 0
InhibitedChangesNothing = (s : State) (t : ℕ) → (task s.table t).inhibited ≡ true → (release_task t s).state ≡ s

-- at another task that is up only the list of faults changes
abbrev pub OverlapsTellFaultsAlone : Type 0
OverlapsTellFaultsAlone =
    (s : State) (t : ℕ) → is_up s.table t ≡ true → record (release_task t s).state { faults = s.faults } ≡ s
