-- The front goes to the end of its queue, unless it is alone there or a task has something open.
use Rattle.std.proofs.Common.{rules, ◌≡◌, true, length, ◌<◌, ap, ◌∙◌, subst, sym, arith}
use Rattle.std.proofs.lemmas.Grind.{common_steps}
use Rattle.lgx_sched.specs.TableView.{TableView, rotated, is_alone}
use Rattle.lgx_sched.specs.Represents.{RepresentsTable}
use Rattle.spec_tables.specs.Tasks.{rotate}
use Rattle.lgx_sched.proofs.Calls.{none_of}
use Rattle.lgx_sched.proofs.Tables.{known_front, represents-rotate, represents-rotate_none, represents-rotate_open}
use Rattle.lgx_sched.proofs.Again.{represents-rotate_alone}
use Rattle.lgx_sched.proofs.table.TaskTable.rotate.Goals as goal

pub is_alone-requires : goal.is_alone-requires
is_alone-requires c = record {
  task = subst (λ (v : TableView). c.in-Some.t < length v.defs) c.self.view_is
      (known_front _ c.in-Some.t c.self.invariant.table (none_of _ c.if-is_none.ensures) (sym c.front.ensures ∙ c.in-Some.is));
}

pub returns-then-not-is_alone-clause-represents : goal.returns-then-not-is_alone-clause-represents
returns-then-not-is_alone-clause-represents c = λ s h.
    subst (λ (v : TableView). RepresentsTable v (rotate s)) (sym (c.put_last.ensures ∙ ap (λ (v : TableView). rotated c.in-Some.t v) (sym c.self.view_is)))
    (represents-rotate _ s c.in-Some.t c.self.invariant.table.0 (subst (λ v. RepresentsTable v s) (sym c.self.view_is) h) (none_of _ c.if-is_none.ensures) (sym c.front.ensures ∙ c.in-Some.is))

pub returns-else-not-is_alone-clause-represents : goal.returns-else-not-is_alone-clause-represents
returns-else-not-is_alone-clause-represents c = λ s h.
    let alone : is_alone c.args.self.now c.in-Some.t ≡ true = first_of (search rules, grind (arith, common_steps)) in
    subst (λ (v : TableView). RepresentsTable v (rotate s)) c.self.view_is
    (represents-rotate_alone _ s c.in-Some.t c.self.invariant.table (subst (λ v. RepresentsTable v s) (sym c.self.view_is) h) (none_of _ c.if-is_none.ensures) (sym c.front.ensures ∙ c.in-Some.is)
    (subst (λ (v : TableView). is_alone v c.in-Some.t ≡ true) (sym c.self.view_is) alone))

pub returns-in_default-clause-represents : goal.returns-in_default-clause-represents
returns-in_default-clause-represents c = λ s h.
    subst (λ (v : TableView). RepresentsTable v (rotate s)) c.self.view_is
    (represents-rotate_none _ s c.self.invariant.table.0 (subst (λ v. RepresentsTable v s) (sym c.self.view_is) h) (none_of _ c.if-is_none.ensures) (sym c.front.ensures ∙ c.in_default.is))

pub returns-else-is_none-clause-represents : goal.returns-else-is_none-clause-represents
returns-else-is_none-clause-represents c = λ s h.
    subst (λ (v : TableView). RepresentsTable v (rotate s)) c.self.view_is
    (represents-rotate_open _ s c.self.invariant.table.0 (subst (λ v. RepresentsTable v s) (sym c.self.view_is) h) c.if-is_none.ensures)
