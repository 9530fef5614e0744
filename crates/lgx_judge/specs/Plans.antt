-- What the bytes of a file lead to: what is accepted goes on, and what is refused is answered with the line that says why.
use Rattle.std.specs.Prelude.{ℕ, List, Result, Ok, Err}
use Rattle.spec_machine.specs.declared.event.Event.{Event}
use Rattle.spec_machine.specs.Project.{Project}
use Rattle.spec_text.specs.declared.script.JournalFault.{JournalFault}
use Rattle.spec_text.specs.Scripts.{Script}
use Rattle.spec_text.specs.JournalText.{journal_of}
use Rattle.spec_text.specs.ScriptText.{script_of}
use Rattle.spec_project.specs.declared.fault.ProjectFault.{ProjectFault}
use Rattle.spec_project.specs.Projects.{project_of}
use Rattle.lgx_answer.specs.declared.status.Verdict.TheVariants as verdict
use Rattle.lgx_answer.specs.Plan.{Plan, Say, only}
use Rattle.lgx_judge.specs.CauseLines.{project_cause_line, journal_cause_line, script_cause_line}

-- ---- the file of a project

abbrev pub of_project : (Project → Plan) → Result Project ProjectFault → Plan
of_project accepted (Err fault) = Say verdict.Project (only (project_cause_line fault))
of_project accepted (Ok project) = accepted project

-- a project's file leads on by the project, if it is one
abbrev pub on_project : (Project → Plan) → List ℕ → Plan
on_project accepted bytes = of_project accepted (project_of bytes)

-- ---- the file of a journal

abbrev pub of_journal : (List Event → Plan) → Result (List Event) JournalFault → Plan
of_journal accepted (Err fault) = Say verdict.Script (only (journal_cause_line fault))
of_journal accepted (Ok journal) = accepted journal

abbrev pub on_journal : (List Event → Plan) → List ℕ → Plan
on_journal accepted bytes = of_journal accepted (journal_of bytes)

-- ---- the file of a script

abbrev pub of_script : (Script → Plan) → Result Script JournalFault → Plan
of_script accepted (Err fault) = Say verdict.Script (only (script_cause_line fault))
of_script accepted (Ok script) = accepted script

abbrev pub on_script : (Script → Plan) → List ℕ → Plan
on_script accepted bytes = of_script accepted (script_of bytes)
