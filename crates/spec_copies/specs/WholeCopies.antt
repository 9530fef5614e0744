-- The copy law in every run.
use Rattle.spec_machine.specs.Project.{Project}
use Rattle.spec_schedule.specs.Stages.{CopiesAreWhole}

-- Where a CPS has copied its last element and its ranges share no byte, the target's bytes are the source's as they were right
-- after the step that started it.
abbrev pub RunsCopyWhole : Type 0
RunsCopyWhole = (p : Project) → CopiesAreWhole p
