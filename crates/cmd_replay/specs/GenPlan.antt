-- The plan of `gen N`: a number's project and its journal, judged as files are that are replayed. Of the report the counts and
-- the end line are said.
use Rattle.std.specs.Prelude.{ℕ}
use Rattle.spec_machine.specs.Project.{Project}
use Rattle.lgx_answer.specs.declared.status.Verdict.TheVariants as verdict
use Rattle.lgx_answer.specs.Plan.{Plan, Say, only}
use Rattle.lgx_gen.specs.Generated.{generated}
use Rattle.lgx_judge.specs.Plans.{on_project, on_journal}
use Rattle.cmd_replay.specs.CountLines.{counted_report}

-- what a number's journal leads to on a project
abbrev pub journal_made : ℕ → Project → Plan
journal_made n project = on_journal (λ journal. Say verdict.Ok (only (counted_report n project journal))) (generated n).journal

abbrev pub gen_plan : ℕ → Plan
gen_plan n = on_project (journal_made n) (generated n).project
