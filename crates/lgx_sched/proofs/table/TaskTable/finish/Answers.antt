-- The task is down, and released again if it is the continuous one.
use Rattle.std.proofs.Common.{length, ◌<◌, ap, ◌∙◌, subst, sym}
use Rattle.spec_tables.specs.Tasks.{is_continuous, finish}
use Rattle.lgx_sched.specs.TableView.{TableView, def_of}
use Rattle.lgx_sched.specs.Represents.{RepresentsTable}
use Rattle.lgx_sched.proofs.Tables.{known_task, represents-finish, represents-finish_other}
use Rattle.lgx_sched.proofs.table.TaskTable.finish.Goals as goal

pub kind-requires : goal.kind-requires
kind-requires c = record {
  task = subst (λ (v : TableView). c.args.t < length v.defs) (sym c.take_out.ensures.exact) (known_task c.args.self.now c.args.t c.take_out.ensures.table c.requires.chosen);
}

pub release-requires : goal.release-requires
release-requires c = record {
  task = subst (λ (v : TableView). c.args.t < length v.defs) (sym c.take_out.ensures.exact) (known_task c.args.self.now c.args.t c.take_out.ensures.table c.requires.chosen);
}

pub returns-then-is_continuous-clause-represents : goal.returns-then-is_continuous-clause-represents
returns-then-is_continuous-clause-represents c = λ s h.
    represents-finish c.args.self.now _ s c.args.t c.args.now c.take_out.ensures.table h c.requires.chosen
    (ap (λ (v : TableView). is_continuous (def_of v c.args.t).kind) (sym c.take_out.ensures.exact) ∙ (ap is_continuous (sym c.kind.ensures) ∙ (sym c.is_continuous.ensures ∙ c.if-is_continuous.true)))
    (λ x k. c.release.ensures.represents x (subst (λ (v : TableView). RepresentsTable v x) (sym c.take_out.ensures.exact) k))

pub returns-else-is_continuous-clause-represents : goal.returns-else-is_continuous-clause-represents
returns-else-is_continuous-clause-represents c = λ s h.
    subst (λ (v : TableView). RepresentsTable v (finish c.args.t c.args.now s)) (sym c.take_out.ensures.exact)
    (represents-finish_other c.args.self.now s c.args.t c.args.now c.take_out.ensures.table h c.requires.chosen
    (ap (λ (v : TableView). is_continuous (def_of v c.args.t).kind) (sym c.take_out.ensures.exact) ∙ (ap is_continuous (sym c.kind.ensures) ∙ (sym c.is_continuous.ensures ∙ c.if-is_continuous.false))))
