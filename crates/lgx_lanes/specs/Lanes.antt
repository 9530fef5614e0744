-- The turns that a lane's loop makes at most, and a project and a script that stand for none.
use Rattle.std.specs.Prelude.{ℕ, ◌+◌, []}
use Rattle.spec_base.specs.declared.limits.TheConstants.{MAX_IMAGE_BYTES}
use Rattle.spec_machine.specs.Project.{Project}
use Rattle.spec_text.specs.Scripts.{Script, script}

-- the turns that a lane's loop makes at most: its actions, the processor steps that there can be, and one for its end
abbrev pub most_turns : ℕ → ℕ → ℕ
most_turns length steps = length + steps + MAX_IMAGE_BYTES + 1

-- a project and a script that stand for none
abbrev pub no_project : Project
no_project = record { tags = record { types = []; programs = 0; entries = [] }; programs = []; tasks = []; names = []; schedule = []; conns = []; image = []; watches = [] }

abbrev pub no_script : Script
no_script = script 0 0 []
