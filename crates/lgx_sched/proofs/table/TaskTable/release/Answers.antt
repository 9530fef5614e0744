-- A task that may be released is up, last in its queue; else the table stays as it was.
use Rattle.std.proofs.Common.{◌∙◌, subst, sym}
use Rattle.spec_tables.specs.declared.task.Release.TheVariants.{Released, Overlap, Inhibited}
use Rattle.spec_tables.specs.Tasks.{release}
use Rattle.lgx_sched.specs.TableView.{TableView, def_of, up_of}
use Rattle.lgx_sched.specs.Represents.{RepresentsTable}
use Rattle.lgx_sched.proofs.Tables.{answer_is, released_down, represents-release}
use Rattle.lgx_sched.proofs.table.TaskTable.release.Goals as goal

pub put_up-requires-clause-down : goal.put_up-requires-clause-down
put_up-requires-clause-down c = released_down (def_of c.args.self.now c.args.t) (up_of c.args.self.now c.args.t) (sym c.in-Released.is ∙ c.answer-answer.ensures.value)

pub returns-in-Released-clause-represents : goal.returns-in-Released-clause-represents
returns-in-Released-clause-represents c = λ s h.
    subst (λ (v : TableView). RepresentsTable v (release c.args.t c.args.now s)) (sym c.put_up.ensures)
    (represents-release c.args.self.now s c.args.t c.args.now Released c.answer-answer.ensures.table.0 h c.requires.task (sym c.in-Released.is ∙ c.answer-answer.ensures.value))

pub returns-in-Overlap-clause-represents : goal.returns-in-Overlap-clause-represents
returns-in-Overlap-clause-represents c = λ s h.
    represents-release c.args.self.now s c.args.t c.args.now Overlap c.answer-answer.ensures.table.0 h c.requires.task (sym c.in-Overlap.is ∙ c.answer-answer.ensures.value)

pub returns-in-Inhibited-clause-represents : goal.returns-in-Inhibited-clause-represents
returns-in-Inhibited-clause-represents c = λ s h.
    represents-release c.args.self.now s c.args.t c.args.now Inhibited c.answer-answer.ensures.table.0 h c.requires.task (sym c.in-Inhibited.is ∙ c.answer-answer.ensures.value)

pub returns-in-Released-clause-answer : goal.returns-in-Released-clause-answer
returns-in-Released-clause-answer c = λ s h. c.answer-answer.ensures.value ∙ answer_is c.args.self.now s c.args.t h

pub returns-in-Overlap-clause-answer : goal.returns-in-Overlap-clause-answer
returns-in-Overlap-clause-answer c = λ s h. c.answer-answer.ensures.value ∙ answer_is c.args.self.now s c.args.t h

pub returns-in-Inhibited-clause-answer : goal.returns-in-Inhibited-clause-answer
returns-in-Inhibited-clause-answer c = λ s h. c.answer-answer.ensures.value ∙ answer_is c.args.self.now s c.args.t h
