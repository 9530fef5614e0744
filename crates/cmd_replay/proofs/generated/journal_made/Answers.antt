use Rattle.std.proofs.Common.{◌∙◌, List, Ok, ap}
use Rattle.spec_machine.specs.declared.event.Event.{Event}
use Rattle.lgx_answer.specs.declared.status.Verdict.TheVariants as verdict
use Rattle.lgx_answer.specs.Plan.{Say, only}
use Rattle.lgx_gen.specs.Generated.{generated}
use Rattle.cmd_replay.specs.CountLines.{counted_report}
use Rattle.lgx_judge.proofs.Judging.{says_no_journal}
use Rattle.cmd_replay.proofs.generated.journal_made.Goals as goal

pub returns-in-Refused-clause-refused : goal.returns-in-Refused-clause-refused
returns-in-Refused-clause-refused c = λ said line is.
    let n = c.args.number in
    let refusal = c.in-Refused.line in
    let is_none = c.in_ok-journal.ensures.refused refusal (ap (λ s. Ok s) c.in-Refused.is) in
    let accepted = λ (journal : List Event). Say verdict.Ok (only (counted_report n c.args.project journal)) in
    let shown = c.deref.ensures.value ∙ c.in_ok-text.ensures in
    says_no_journal accepted c.deref.result.now (generated n).journal refusal line said is_none shown (cc is) (cc is)
