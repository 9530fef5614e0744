use Rattle.std.proofs.Common.{List, Ok, ap, sym, subst}
use Rattle.spec_machine.specs.declared.event.Event.{Event}
use Rattle.spec_machine.specs.Project.{Project}
use Rattle.lgx_answer.specs.declared.status.Verdict.TheVariants as verdict
use Rattle.lgx_answer.specs.Plan.{Read, Say, Says, only}
use Rattle.cmd_trace.specs.declared.trace_command.Trace.{Trace}
use Rattle.cmd_trace.specs.TracePlan.{trace_text, journal_read}
use Rattle.cmd_trace.specs.TraceState.{trace_state}
use Rattle.lgx_judge.proofs.Judging.{says_no_project, says_no_journal}
use Rattle.cmd_trace.proofs.trace_command.TraceFileCommand.judge.Goals as goal

pub returns-in-Both-clause-say : goal.returns-in-Both-clause-say
returns-in-Both-clause-say c = λ said line is.
    let bytes = c.args.bytes.items in
    let refusal = c.in-Refused.line in
    let is_none = c.in_ok-project-in-Both.ensures.refused refusal (ap (λ s. Ok s) c.in-Refused.is) in
    let accepted = λ (project : Project). Read c.in-Both.journal.now (journal_read project) in
    let P : Trace → Type 0 = λ s. Says (trace_state s bytes) said line in
    let says = says_no_project accepted c.deref.result.now bytes refusal line said is_none c.deref.ensures.value (cc is) (cc is) in
    subst P (sym c.in-Both.is) says

pub returns-clause-say : goal.returns-clause-say
returns-clause-say c = λ said line is.
    let bytes = c.args.bytes.items in
    let shown = c.deref-in-OnProject in
    let refusal = c.in-Refused-2.line in
    let is_none = c.in_ok-journal-in-OnProject.ensures.refused refusal (ap (λ s. Ok s) c.in-Refused-2.is) in
    let accepted = λ (journal : List Event). Say verdict.Ok (only (trace_text c.in-OnProject.read journal)) in
    let P : Trace → Type 0 = λ s. Says (trace_state s bytes) said line in
    let says = says_no_journal accepted shown.result.now bytes refusal line said is_none shown.ensures.value (cc is) (cc is) in
    subst P (sym c.in-OnProject.is) says
