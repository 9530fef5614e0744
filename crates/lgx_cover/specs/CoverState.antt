-- The program on its way.
use Rattle.std.specs.Prelude.{ℕ, List}
use Rattle.lgx_answer.specs.Plan.{Plan}
use Rattle.lgx_cover.specs.declared.command.Cover.{Cover}
use Rattle.lgx_cover.specs.declared.command.Cover.TheVariants.{Both, OnProject}
use Rattle.lgx_cover.specs.CoverPlan.{project_read, journal_read}

-- the file that is read next
abbrev pub cover_file : Cover → List ℕ
cover_file (Both project journal) = project.now
cover_file (OnProject project journal) = journal.now

-- what its bytes lead to
abbrev pub cover_next : Cover → List ℕ → Plan
cover_next (Both project journal) bytes = project_read journal.now bytes
cover_next (OnProject project journal) bytes = journal_read project bytes

-- how many files are read after it
abbrev pub cover_left : Cover → ℕ
cover_left (Both project journal) = 1
cover_left (OnProject project journal) = 0
