use Rattle.std.proofs.Common.{◌∙◌, Ok, ap}
use Rattle.lgx_gen.specs.Generated.{generated}
use Rattle.cmd_replay.specs.GenPlan.{journal_made}
use Rattle.lgx_judge.proofs.Judging.{says_no_project}
use Rattle.cmd_replay.proofs.generated.made_by.Goals as goal

pub returns-clause-refused : goal.returns-clause-refused
returns-clause-refused c = λ said line is.
    let n = c.args.number in
    let refusal = c.in-Refused.line in
    let is_none = c.in_ok-project.ensures.refused refusal (ap (λ s. Ok s) c.in-Refused.is) in
    let shown = c.deref.ensures.value ∙ c.in_ok-text.ensures in
    says_no_project (journal_made n) c.deref.result.now (generated n).project refusal line said is_none shown (cc is) (cc is)
