use Rattle.std.proofs.Common.{ℕ, ◌∙◌, ap, subst}
use Rattle.lgx_laws.specs.declared.error.LawError.{LawError}
use Rattle.lgx_laws.specs.Laws.{roster_of, IsBreach, IfBreach}
use Rattle.cmd_trace.specs.AuditPlan.{yes_line}
use Rattle.cmd_laws.proofs.Says.{says_yes, says_no}
use Rattle.cmd_laws.proofs.command.judged.Goals as goal

pub returns-in_ok-line-in-Ok : goal.returns-in_ok-line-in-Ok
returns-in_ok-line-in-Ok c =
    says_yes (roster_of c.args.project.now) c.args.trace.now c.of.result c.in-Ok.ensures.ok (c.of.ensures ∙ (c.in_ok-line-in-Ok.ensures ∙ ap (λ (n : ℕ). yes_line n) c.len.ensures))

pub returns-in_ok-line-in-Err-Breach : goal.returns-in_ok-line-in-Err-Breach
returns-in_ok-line-in-Err-Breach c =
    says_no (roster_of c.args.project.now) c.args.trace.now c.in-Err-Breach.law c.in-Err-Breach.at c.of-in-Err-Breach.result
    (subst (λ (e : LawError). IfBreach e (λ law at. IsBreach (roster_of c.args.project.now) c.args.trace.now law at)) c.in-Err-Breach.field-0-is c.in-Err-Breach.ensures.breach) (c.of-in-Err-Breach.ensures ∙ c.in_ok-line-in-Err-Breach.ensures)
