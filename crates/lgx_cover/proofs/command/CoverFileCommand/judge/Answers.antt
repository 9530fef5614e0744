use Rattle.std.proofs.Common.{List, Ok, ap, sym, subst}
use Rattle.spec_machine.specs.declared.event.Event.{Event}
use Rattle.spec_machine.specs.Project.{Project}
use Rattle.lgx_cover.specs.Texts.{cover_text}
use Rattle.lgx_answer.specs.declared.status.Verdict.TheVariants as verdict
use Rattle.lgx_answer.specs.Plan.{Read, Say, Says, only}
use Rattle.lgx_cover.specs.declared.command.Cover.{Cover}
use Rattle.lgx_cover.specs.CoverPlan.{journal_read}
use Rattle.lgx_cover.specs.CoverState.{cover_next}
use Rattle.lgx_judge.proofs.Judging.{says_no_project, says_no_journal}
use Rattle.lgx_cover.proofs.command.CoverFileCommand.judge.Goals as goal

pub returns-in-Both-clause-say : goal.returns-in-Both-clause-say
returns-in-Both-clause-say c = λ said line is.
    let bytes = c.args.bytes.items in
    let refusal = c.in-Refused.line in
    let is_none = c.in_ok-project-in-Both.ensures.refused refusal (ap (λ s. Ok s) c.in-Refused.is) in
    let accepted = λ (project : Project). Read c.in-Both.journal.now (journal_read project) in
    let P : Cover → Type 0 = λ s. Says (cover_next s bytes) said line in
    let says = says_no_project accepted c.deref.result.now bytes refusal line said is_none c.deref.ensures.value (cc is) (cc is) in
    subst P (sym c.in-Both.is) says

pub returns-clause-say : goal.returns-clause-say
returns-clause-say c = λ said line is.
    let bytes = c.args.bytes.items in
    let shown = c.deref-in-OnProject in
    let refusal = c.in-Refused-2.line in
    let is_none = c.in_ok-journal-in-OnProject.ensures.refused refusal (ap (λ s. Ok s) c.in-Refused-2.is) in
    let accepted = λ (journal : List Event). Say verdict.Ok (only (cover_text c.in-OnProject.project journal)) in
    let P : Cover → Type 0 = λ s. Says (cover_next s bytes) said line in
    let says = says_no_journal accepted shown.result.now bytes refusal line said is_none shown.ensures.value (cc is) (cc is) in
    subst P (sym c.in-OnProject.is) says
