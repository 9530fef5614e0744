-- The plan of `run P S`.
use Rattle.std.specs.Prelude.{ℕ, List}
use Rattle.spec_machine.specs.Project.{Project}
use Rattle.spec_text.specs.Scripts.{Script}
use Rattle.lgx_answer.specs.declared.status.Verdict.TheVariants as verdict
use Rattle.lgx_answer.specs.Plan.{Texts, Plan, Say, Read}
use Rattle.lgx_judge.specs.Plans.{on_project, on_script}
use Rattle.cmd_run.specs.RunText.{IsRunText}

-- the texts of all journals that the lanes may make
abbrev pub run_texts : Project → Script → Texts
run_texts project script = λ bytes. IsRunText project script bytes

abbrev pub script_ran : Project → Script → Plan
script_ran project script = Say verdict.Ok (run_texts project script)

-- the script is read only if the project is accepted
abbrev pub script_read : List ℕ → Project → Plan
script_read s project = Read s (on_script (script_ran project))

abbrev pub run_plan : List ℕ → List ℕ → Plan
run_plan p s = Read p (on_project (script_read s))
