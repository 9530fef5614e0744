use Rattle.std.proofs.Common.{Ok, ap, sym, subst}
use Rattle.spec_machine.specs.Project.{Project}
use Rattle.spec_text.specs.Scripts.{Script}
use Rattle.lgx_answer.specs.declared.status.Verdict.TheVariants as verdict
use Rattle.lgx_answer.specs.Plan.{Read, Says}
use Rattle.lgx_judge.proofs.Follow.{project_refused, script_refused}
use Rattle.cmd_explore.specs.declared.command.Explore.{Explore}
use Rattle.cmd_explore.specs.ExplorePlan.{answered, question_read, script_read, project_read}
use Rattle.cmd_explore.specs.ExploreState.{explore_next}
use Rattle.cmd_explore.proofs.Judging.{says_as, question_refused, question_says}
use Rattle.cmd_explore.proofs.command.ExploreFileCommand.judge.Goals as goal

pub returns-in-All-clause-say : goal.returns-in-All-clause-say
returns-in-All-clause-say g c = λ said line is.
    let shown = c.deref.result.now in
    let refusal = c.in-Refused.line in
    let s = c.in-All.script.now in
    let q = c.in-All.question.now in
    let why = c.in_ok-project-in-All.ensures.refused refusal (ap (λ j. Ok j) c.in-Refused.is) in
    let base = project_refused (λ (p : Project). Read s (script_read q p)) shown refusal why in
    let P : Explore _ → Type 0 = λ w. Says (explore_next w c.args.bytes.items) said line in
    subst P (sym c.in-All.is) (says_as (project_read s q) shown c.args.bytes.items refusal line verdict.Project said c.deref.ensures.value (cc is) (cc is) base)

pub returns-in-OnProject-clause-say : goal.returns-in-OnProject-clause-say
returns-in-OnProject-clause-say g c = λ said line is.
    let shown = c.deref-in-OnProject.result.now in
    let refusal = c.in-Refused-2.line in
    let p = c.in-OnProject.project in
    let q = c.in-OnProject.question.now in
    let why = c.in_ok-script-in-OnProject.ensures.refused refusal (ap (λ j. Ok j) c.in-Refused-2.is) in
    let base = script_refused (λ (script : Script). Read q (question_read p script)) shown refusal why in
    let P : Explore _ → Type 0 = λ w. Says (explore_next w c.args.bytes.items) said line in
    subst P (sym c.in-OnProject.is) (says_as (script_read q p) shown c.args.bytes.items refusal line verdict.Script said c.deref-in-OnProject.ensures.value (cc is) (cc is) base)

pub returns-clause-say : goal.returns-clause-say
returns-clause-say g c = λ said line is.
    let shown = c.deref-in-OnScript.result.now in
    let refusal = c.in-Refused-3.line in
    let p = c.in-OnScript.project in
    let script = c.in-OnScript.script in
    let why = c.in_ok-question-in-OnScript.ensures.refused refusal (ap (λ j. Ok j) c.in-Refused-3.is) in
    let base = question_refused p (answered p script) shown refusal why in
    let P : Explore _ → Type 0 = λ w. Says (explore_next w c.args.bytes.items) said line in
    subst P (sym c.in-OnScript.is) (says_as (question_read p script) shown c.args.bytes.items refusal line verdict.Script said c.deref-in-OnScript.ensures.value (cc is) (cc is) base)

pub returns-in-Accepted-3-clause-say : goal.returns-in-Accepted-3-clause-say
returns-in-Accepted-3-clause-say g c = λ said line is.
    let shown = c.deref-in-OnScript.result.now in
    let p = c.in-OnScript.project in
    let script = c.in-OnScript.script in
    let answer = c.in_ok-said-in-Accepted-3.said in
    let read = c.in_ok-question-in-OnScript.ensures.accepted c.in-Accepted-3.question (ap (λ j. Ok j) c.in-Accepted-3.is) in
    let base = question_says p (answered p script) shown c.in-Accepted-3.question answer.verdict answer.text read c.in_ok-said-in-Accepted-3.ensures in
    let P : Explore _ → Type 0 = λ w. Says (explore_next w c.args.bytes.items) said line in
    subst P (sym c.in-OnScript.is) (says_as (question_read p script) shown c.args.bytes.items answer.text line answer.verdict said c.deref-in-OnScript.ensures.value (cc is) (cc is) base)
