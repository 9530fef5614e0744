-- The plan of `xref P`: the cross reference of a project.
use Rattle.std.specs.Prelude.{ℕ, List}
use Rattle.lgx_answer.specs.declared.status.Verdict.TheVariants as verdict
use Rattle.lgx_answer.specs.Plan.{Plan, Say, Read, only}
use Rattle.lgx_judge.specs.Plans.{on_project}
use Rattle.cmd_xref.specs.XrefText.{xref_text}

abbrev pub xref_judged : List ℕ → Plan
xref_judged = on_project (λ project. Say verdict.Ok (only (xref_text project)))

-- the file of this name is read, and the uses of its tags are listed if it is a project
abbrev pub xref_plan : List ℕ → Plan
xref_plan name = Read name xref_judged
