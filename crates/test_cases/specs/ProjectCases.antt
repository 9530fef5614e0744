-- A project that is valid, and projects that aren't: one field of it is changed.
use Rattle.std.specs.Prelude.{[], ◌∷◌, map, Some}
use Rattle.spec_tables.specs.declared.conn.ConnDef.{ConnDef}
use Rattle.spec_machine.specs.Project.{Project}
use Rattle.test_cases.specs.TaskRuns.{inhibited_event}

-- an image too short for the tags, as that of a copy past its end would be
abbrev pub short_image : Project
short_image = record inhibited_event { image = [] }

-- a program that no task runs
abbrev pub unscheduled : Project
unscheduled = record inhibited_event { schedule = (0 ∷ []) ∷ (0 ∷ []) ∷ [] }

abbrev pub triggers_first : ConnDef → ConnDef
triggers_first c = record c { trigger = Some 0 }

-- a trigger that is the continuous task
abbrev pub continuous_trigger : Project
continuous_trigger = record inhibited_event { conns = map triggers_first inhibited_event.conns }
