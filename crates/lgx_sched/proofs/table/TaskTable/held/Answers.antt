-- Only the open task can have a CPS in progress.
use Rattle.std.proofs.Common.{None, ap, ◌∙◌, subst, sym, arith}
use Rattle.lgx_sched.specs.Represents.{RepresentsTable}
use Rattle.lgx_sched.specs.TableView.{has_cps}
use Rattle.std.proofs.lemmas.List.{get_or_read}
use Rattle.lgx_sched.proofs.Calls.{held-none, held-some, open_task_known}
use Rattle.lgx_sched.proofs.table.TaskTable.held.Goals as goal

pub index-requires : goal.index-requires
index-requires c =
    let l = open_task_known _ c.in-Some.t c.self.invariant.table c.in-Some.is in
    let same = c.self.invariant.table.0.as_many in
    omega arith

pub returns-in-Some : goal.returns-in-Some
returns-in-Some c = λ s h.
    let l = open_task_known _ c.in-Some.t c.self.invariant.table c.in-Some.is in
    let same = c.self.invariant.table.0.as_many in
    c.has_cps.ensures ∙ (ap has_cps (get_or_read c.self.inside.ups.items c.in-Some.t _ (omega arith) c.index.ensures None)
    ∙ sym (held-some _ s c.in-Some.t c.self.invariant.table.0 (subst (λ v. RepresentsTable v s) (sym c.self.view_is) h) c.in-Some.is))

pub returns-in-None : goal.returns-in-None
returns-in-None c = λ s h. sym (held-none _ s c.self.invariant.table.0 (subst (λ v. RepresentsTable v s) (sym c.self.view_is) h) c.in-None.is)
