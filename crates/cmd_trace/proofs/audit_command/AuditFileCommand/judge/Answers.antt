use Rattle.std.proofs.Common.{Ok, ap, sym, subst}
use Rattle.spec_machine.specs.Project.{Project}
use Rattle.spec_schedule.specs.TraceView.{table_of}
use Rattle.lgx_answer.specs.Plan.{Read, Says}
use Rattle.cmd_trace.specs.declared.audit_command.Audit.{Audit}
use Rattle.cmd_trace.specs.AuditPlan.{on_trace}
use Rattle.cmd_trace.specs.AuditState.{audit_next}
use Rattle.lgx_judge.proofs.Judging.{says_no_project}
use Rattle.cmd_trace.proofs.audit_command.AuditFileCommand.judge.Goals as goal

pub returns-in-Both-clause-say : goal.returns-in-Both-clause-say
returns-in-Both-clause-say c = λ said line is.
    let bytes = c.args.bytes.items in
    let refusal = c.in-Refused.line in
    let is_none = c.in_ok-project-in-Both.ensures.refused refusal (ap (λ s. Ok s) c.in-Refused.is) in
    let accepted = λ (project : Project). Read c.in-Both.trace.now (on_trace (table_of project)) in
    let P : Audit → Type 0 = λ s. Says (audit_next s bytes) said line in
    let says = says_no_project accepted c.deref.result.now bytes refusal line said is_none c.deref.ensures.value (cc is) (cc is) in
    subst P (sym c.in-Both.is) says
