-- The instructions of programs.
use Rattle.std.specs.Prelude.{ℕ, List, sum_by}
use Rattle.spec_machine.specs.Edits.{instruction_count}
use Rattle.spec_machine.specs.Project.{ProgramText}

abbrev pub instructions_of : List ProgramText → ℕ
instructions_of programs = sum_by (λ q. instruction_count q.routines) programs
