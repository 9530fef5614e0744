-- The image never changes its length.
use Rattle.std.specs.Prelude.{◌≡◌, List, length}
use Rattle.spec_machine.specs.declared.event.Event.{Event}
use Rattle.spec_machine.specs.Machine.{run}
use Rattle.spec_machine.specs.Project.{Project}

-- of whatever project
abbrev pub ImagesKeepLength : Type 0
ImagesKeepLength = (p : Project) (journal : List Event) → length (run p journal).image ≡ length p.image
