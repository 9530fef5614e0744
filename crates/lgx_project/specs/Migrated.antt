-- A project file carried to the newest schema.
use Rattle.std.specs.Prelude.{ℕ, List, [], ◌∷◌, ◌++◌, option_map, unwrap_or, Result, Ok, Err, codes}
use Rattle.serde_json.specs.Data.{Data, number, object, Members, unsigned, put}
use Rattle.serde_json.specs.Find.{as_object}
use Rattle.serde_json.specs.Written.{compact_text}
use Rattle.spec_machine.specs.Project.{Project}
use Rattle.spec_project.specs.declared.fault.ProjectFault.{ProjectFault}
use Rattle.spec_project.specs.declared.limits.TheConstants.{NEWEST_SCHEMA}
use Rattle.spec_project.specs.Projects.{project_of}
use Rattle.spec_project.specs.Reading.{value_of}

-- these members, but with the newest schema
abbrev pub with_schema : Members → Data
with_schema ms = object (put (codes "schema") (number (unsigned NEWEST_SCHEMA)) ms)

-- a value with the newest schema, if it is an object
abbrev pub with_newest_schema : Data → Data
with_newest_schema d = unwrap_or (option_map with_schema (as_object d)) d

-- a value's text with nothing between its parts, keys in the order of their bytes, and a line feed
abbrev pub line_of : Data → List ℕ
line_of d = compact_text d ++ 10 ∷ []

-- the line that a file's value gives
unfoldable pub migrated_text : List ℕ → List ℕ
migrated_text bytes = unwrap_or (option_map (λ d. line_of (with_newest_schema d)) (value_of bytes)) []

abbrev pub unless_no_project : Result Project ProjectFault → List ℕ → Result (List ℕ) ProjectFault
unless_no_project (Err fault) line = Err fault
unless_no_project (Ok p) line = Ok line

-- the line that the file of a project gives, or why the file is none
unfoldable pub migrated : List ℕ → Result (List ℕ) ProjectFault
migrated bytes = unless_no_project (project_of bytes) (migrated_text bytes)
