use Rattle.std.proofs.Common.{◌≡◌, ◌++◌, Ok, ap, sym, ◌∙◌}
use Rattle.cmd_link.proofs.Judging.{lettered_refused}
use Rattle.cmd_link.proofs.judged.judge_controller.Goals as goal

pub returns-in_ok-line-in-Refused-clause-refused : goal.returns-in_ok-line-in-Refused-clause-refused
returns-in_ok-line-in-Refused-clause-refused c = λ line is.
    let letter = c.args.letter.now in
    let refusal = c.in-Refused.line in
    let same : c.of.result ≡ line = cc is in
    let why = c.in_ok-project.ensures.refused refusal (ap (λ s. Ok s) c.in-Refused.is) in
    lettered_refused letter c.args.bytes.now refusal line why (sym same ∙ c.of.ensures ∙ c.in_ok-line-in-Refused.ensures ∙ ap (λ t. letter ++ t) c.as_slice.ensures)
