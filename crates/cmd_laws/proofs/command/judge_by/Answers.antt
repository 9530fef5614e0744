use Rattle.std.proofs.Common.{ap, sym, subst, ◌∙◌}
use Rattle.std.specs.Prelude.{IfErr, OnOk}
use Rattle.spec_machine.specs.Project.{Project}
use Rattle.lgx_laws.specs.Laws.{Roster, KeepsAll, IsBreach, IfBreach}
use Rattle.lgx_laws.specs.Kept.{IsProper}
use Rattle.lgx_laws.proofs.Proper.{proper_of}
use Rattle.cmd_laws.proofs.Rosters.{same_roster}
use Rattle.cmd_laws.proofs.command.judge_by.Goals as goal

pub judge-requires-clause-proper : goal.judge-requires-clause-proper
judge-requires-clause-proper c =
    let same = same_roster c.args.project.now c.args.table.now c.as_slice-tasks.result.now c.as_slice-schedule.result.now c.requires.table (c.as_slice-tasks.ensures ∙ ap (λ (p : Project). p.tasks) c.project.view_is) (c.as_slice-schedule.ensures ∙ ap (λ (p : Project). p.schedule) c.project.view_is) in
    subst (λ (r : Roster). IsProper r) (sym same) (proper_of c.args.project.now c.law_of_validity.ensures)

pub returns-clause-ok : goal.returns-clause-ok
returns-clause-ok c =
    let same = same_roster c.args.project.now c.args.table.now c.as_slice-tasks.result.now c.as_slice-schedule.result.now c.requires.table (c.as_slice-tasks.ensures ∙ ap (λ (p : Project). p.tasks) c.project.view_is) (c.as_slice-schedule.ensures ∙ ap (λ (p : Project). p.schedule) c.project.view_is) in
    subst (λ (r : Roster). OnOk c.judge.result (KeepsAll r c.args.trace.now)) same c.judge.ensures.ok

pub returns-clause-breach : goal.returns-clause-breach
returns-clause-breach c =
    let same = same_roster c.args.project.now c.args.table.now c.as_slice-tasks.result.now c.as_slice-schedule.result.now c.requires.table (c.as_slice-tasks.ensures ∙ ap (λ (p : Project). p.tasks) c.project.view_is) (c.as_slice-schedule.ensures ∙ ap (λ (p : Project). p.schedule) c.project.view_is) in
    subst (λ (r : Roster). IfErr c.judge.result (λ e. IfBreach e (λ law at. IsBreach r c.args.trace.now law at))) same c.judge.ensures.breach
