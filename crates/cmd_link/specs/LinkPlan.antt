-- The plan of `link A B L`.
use Rattle.std.specs.Prelude.{ℕ, List, Result, Ok, Err, codes}
use Rattle.spec_machine.specs.Project.{Project}
use Rattle.spec_project.specs.declared.fault.ProjectFault.{ProjectFault}
use Rattle.spec_project.specs.Projects.{project_of}
use Rattle.spec_link.specs.declared.script.LinkFault.{LinkFault}
use Rattle.spec_link.specs.declared.script.LinkScript.{LinkScript}
use Rattle.spec_link.specs.LinkText.{link_of}
use Rattle.lgx_answer.specs.declared.status.Verdict.TheVariants as verdict
use Rattle.lgx_answer.specs.Plan.{Texts, Plan, Say, Read, only}
use Rattle.cmd_link.specs.LinkCauses.{controller_cause_line, link_cause_line}
use Rattle.cmd_link.specs.LinkTexts.{IsLinkText}

-- ---- the file of a controller's project, whose cause has the controller's letter before it

abbrev pub of_controller : List ℕ → (Project → Plan) → Result Project ProjectFault → Plan
of_controller letter accepted (Err fault) = Say verdict.Project (only (controller_cause_line letter fault))
of_controller letter accepted (Ok project) = accepted project

abbrev pub on_controller : List ℕ → (Project → Plan) → List ℕ → Plan
on_controller letter accepted bytes = of_controller letter accepted (project_of bytes)

-- ---- the file of a link script

abbrev pub link_texts : Project → Project → LinkScript → Texts
link_texts a b script = λ text. IsLinkText a b script text

abbrev pub of_link : Project → Project → Result LinkScript LinkFault → Plan
of_link a b (Err fault) = Say verdict.Script (only (link_cause_line fault))
of_link a b (Ok script) = Say verdict.Ok (link_texts a b script)

-- ---- the three files, each read only if none before it is refused

abbrev pub script_read : Project → Project → List ℕ → Plan
script_read a b bytes = of_link a b (link_of a b bytes)

abbrev pub b_read : List ℕ → Project → List ℕ → Plan
b_read l a bytes = on_controller (codes "b ") (λ b. Read l (script_read a b)) bytes

abbrev pub a_read : List ℕ → List ℕ → List ℕ → Plan
a_read b l bytes = on_controller (codes "a ") (λ a. Read b (b_read l a)) bytes

abbrev pub link_plan : List ℕ → List ℕ → List ℕ → Plan
link_plan a b l = Read a (a_read b l)
