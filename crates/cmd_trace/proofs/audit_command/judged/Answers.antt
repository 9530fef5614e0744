use Rattle.std.proofs.Common.{ℕ, ◌∙◌, ap, subst}
use Rattle.lgx_audit.specs.declared.error.AuditError.{AuditError}
use Rattle.lgx_audit.specs.Answers.{IfBreach}
use Rattle.lgx_audit.specs.Breaches.{IsBreach}
use Rattle.cmd_trace.specs.AuditPlan.{yes_line}
use Rattle.cmd_trace.proofs.Says.{says_yes, says_no}
use Rattle.cmd_trace.proofs.audit_command.judged.Goals as goal

pub returns-in_ok-line-in-Ok : goal.returns-in_ok-line-in-Ok
returns-in_ok-line-in-Ok c =
    says_yes c.args.table.now c.args.trace.now c.of.result c.requires c.in-Ok.ensures.ok (c.of.ensures ∙ (c.in_ok-line-in-Ok.ensures ∙ ap (λ (n : ℕ). yes_line n) c.len.ensures))

pub returns-in_ok-line-in-Err-Breach : goal.returns-in_ok-line-in-Err-Breach
returns-in_ok-line-in-Err-Breach c =
    says_no c.args.table.now c.args.trace.now c.in-Err-Breach.law c.in-Err-Breach.at c.of-in-Err-Breach.result c.requires
    (subst (λ (e : AuditError). IfBreach e (λ law at. IsBreach c.args.table.now c.args.trace.now law at)) c.in-Err-Breach.field-0-is c.in-Err-Breach.ensures.breach) (c.of-in-Err-Breach.ensures ∙ c.in_ok-line-in-Err-Breach.ensures)
