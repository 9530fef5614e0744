-- The rungs of a project's routines, and what of them is refused.
use Rattle.std.specs.Prelude.{ℕ, nat_lt, unwrap_or, position, List, [], map, filter_map, sum_by, Option, Some, None, Result, Ok, Err, codes}
use Rattle.std.specs.List.{enumerate_from}
use Rattle.std.specs.Result.{result_ok}
use Rattle.lgx_num.specs.Name.{same}
use Rattle.lgx_rung.specs.Tree.{Source}
use Rattle.lgx_rung.specs.Tokens.{read_rung}
use Rattle.lgx_rung.specs.declared.fault.TextFault.{TextFault}
use Rattle.lgx_rung.specs.declared.fault.CheckFault.{CheckFault}
use Rattle.spec_language.specs.declared.names.TaskName.{TaskName}
use Rattle.spec_language.specs.Checked.{CheckScope, checked}
use Rattle.spec_scan.specs.Position.{Rungs}
use Rattle.spec_machine.specs.Project.{RoutineText, ProgramText}
use Rattle.spec_machine.specs.Edits.{instruction_count}
use Rattle.spec_machine.specs.ValidProject.{is_event}
use Rattle.spec_machine.specs.declared.limits.TheConstants.{MAX_PROJECT_INSTRUCTIONS}
use Rattle.spec_project.specs.declared.fault.Inner.TheVariants.{OfText, OfCheck}
use Rattle.spec_project.specs.declared.fault.ProjectFault.{ProjectFault}
use Rattle.spec_project.specs.declared.fault.ProjectCode.TheVariants.{P10, P11}
use Rattle.spec_project.specs.declared.described.Described.{Described}
use Rattle.spec_project.specs.declared.described.DescribedProgram.{DescribedProgram}
use Rattle.spec_project.specs.declared.described.DescribedRoutine.{DescribedRoutine}
use Rattle.spec_project.specs.Faults.{or_else, here, here_for, in_field, at_place, refused_if, first_of, first_at}
use Rattle.spec_project.specs.Names.{routine_names}
use Rattle.spec_project.specs.Tags.{declarations}

-- ---- what rungs are checked against

abbrev pub names_of_tasks : Described → List TaskName
names_of_tasks p = map (λ t. record { name = t.name; event = is_event t.def.kind }) p.tasks

abbrev pub scope_of : Described → ℕ → DescribedProgram → CheckScope
scope_of p n q = record { tags = declarations p; program = n; routines = routine_names q; tasks = names_of_tasks p }

-- ---- refusals

-- P10, for what is wrong with the spelling
abbrev pub spelling_refusal : Result Source TextFault → Option ProjectFault
spelling_refusal (Ok rung) = None
spelling_refusal (Err f) = Some (here_for P10 (OfText f))

-- P10: the text is no rung
abbrev pub rung_fault : List ℕ → Option ProjectFault
rung_fault text = spelling_refusal (read_rung text)

-- P10, for what is wrong with an operand
abbrev pub rungs_refusal : Result Rungs CheckFault → Option ProjectFault
rungs_refusal (Ok rungs) = None
rungs_refusal (Err f) = Some (here_for P10 (OfCheck f))

-- the rungs that a routine's texts spell, if each spells one
abbrev pub source_of : DescribedRoutine → List Source
source_of r = filter_map (λ text. result_ok (read_rung text)) r.rungs

-- P10 of its texts, at the rung; and then of its rungs, at the routine
abbrev pub routine_fault : CheckScope → DescribedRoutine → Option ProjectFault
routine_fault scope r =
    or_else (in_field (codes "rungs") (first_at rung_fault r.rungs)) (rungs_refusal (checked scope (source_of r)))

abbrev pub program_fault : Described → ℕ → DescribedProgram → Option ProjectFault
program_fault p n q = at_place n (in_field (codes "routines") (first_at (routine_fault (scope_of p n q)) q.routines))

-- ---- programs

abbrev pub rungs_of : CheckScope → DescribedRoutine → Rungs
rungs_of scope r = unwrap_or (result_ok (checked scope (source_of r))) []

abbrev pub routine_text : CheckScope → DescribedRoutine → RoutineText
routine_text scope r = record { name = r.name; source = source_of r; checked = rungs_of scope r }

-- the number of the main routine
abbrev pub main_of : DescribedProgram → ℕ
main_of q = unwrap_or (position (λ name. same name q.main) (routine_names q)) 0

abbrev pub program_text : Described → ℕ × DescribedProgram → ProgramText
program_text p (n, q) = record { name = q.name; routines = map (routine_text (scope_of p n q)) q.routines; main = main_of q }

abbrev pub program_texts : Described → List ProgramText
program_texts p = map (program_text p) (enumerate_from 0 p.programs)

abbrev pub instructions_in : Described → ℕ
instructions_in p = sum_by (λ q. instruction_count q.routines) (program_texts p)

-- of each program's routines; and then P11: there are too many instructions in all
unfoldable pub routines_fault : Described → Option ProjectFault
routines_fault p =
    or_else (in_field (codes "programs") (first_of (program_fault p) p.programs))
    (in_field (codes "programs") (refused_if (nat_lt MAX_PROJECT_INSTRUCTIONS (instructions_in p)) (here P11)))
