use Rattle.std.proofs.Common.{Ok, ap, sym, subst}
use Rattle.spec_machine.specs.Project.{Project}
use Rattle.lgx_answer.specs.Plan.{Read, Says}
use Rattle.lgx_laws.specs.Laws.{roster_of}
use Rattle.lgx_judge.proofs.Judging.{says_no_project}
use Rattle.cmd_laws.specs.declared.command.Laws.{Laws}
use Rattle.cmd_laws.specs.LawsPlan.{on_trace}
use Rattle.cmd_laws.specs.LawsState.{laws_next}
use Rattle.cmd_laws.proofs.command.LawsFileCommand.judge.Goals as goal

pub returns-in-Both-clause-say : goal.returns-in-Both-clause-say
returns-in-Both-clause-say c = λ said line is.
    let bytes = c.args.bytes.items in
    let refusal = c.in-Refused.line in
    let is_none = c.in_ok-project-in-Both.ensures.refused refusal (ap (λ s. Ok s) c.in-Refused.is) in
    let accepted = λ (project : Project). Read c.in-Both.trace.now (on_trace (roster_of project)) in
    let P : Laws → Type 0 = λ s. Says (laws_next s bytes) said line in
    let says = says_no_project accepted c.deref.result.now bytes refusal line said is_none c.deref.ensures.value (cc is) (cc is) in
    subst P (sym c.in-Both.is) says
