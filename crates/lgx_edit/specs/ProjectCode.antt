-- How projects are told apart: each is stored as its fields.
use Rattle.std.specs.Prelude.{ℕ, List, refl}
use Rattle.std.specs.Coded.{Coded, code_by, coded×, coded_ℕ, coded_list}
use Rattle.lgx_rung.specs.declared.ins.Ins.{Ins}
use Rattle.lgx_rung.specs.Tree.{SourceIns}
use Rattle.spec_language.specs.declared.names.TaskName.{TaskName}
use Rattle.spec_language.specs.Declarations.{Declarations}
use Rattle.spec_tables.specs.declared.task.TaskDef.{TaskDef}
use Rattle.spec_tables.specs.declared.conn.ConnDef.{ConnDef}
use Rattle.spec_machine.specs.Project.{Project, ProgramText, RoutineText, Watch}
use Rattle.lgx_edit.specs.Codes.{routine_code}

abbrev pub program_code : Coded SourceIns → Coded Ins → Coded ProgramText
program_code c d =
    code_by (List ℕ × (List RoutineText × ℕ))
    (coded× (coded_list coded_ℕ) (coded× (coded_list (routine_code c d)) coded_ℕ))
    (λ p. (p.name, (p.routines, p.main)))
    (λ p. record { name = p.0; routines = p.1.0; main = p.1.1 })
    (λ _. refl)

-- a project but for its programs
abbrev pub Rest : Type 0
Rest = (Declarations × (List TaskDef × List TaskName)) × ((List (List ℕ) × List ConnDef) × (List ℕ × List Watch))

abbrev pub project_code : Coded SourceIns → Coded Ins → Coded Rest → Coded Project
project_code c d rest =
    code_by (List ProgramText × Rest) (coded× (coded_list (program_code c d)) rest)
    (λ p. (p.programs, ((p.tags, (p.tasks, p.names)), ((p.schedule, p.conns), (p.image, p.watches)))))
    (λ p. record {
      tags = p.1.0.0;
      programs = p.0;
      tasks = p.1.0.1.0;
      names = p.1.0.1.1;
      schedule = p.1.1.0.0;
      conns = p.1.1.0.1;
      image = p.1.1.1.0;
      watches = p.1.1.1.1;
    })
    (λ _. refl)
