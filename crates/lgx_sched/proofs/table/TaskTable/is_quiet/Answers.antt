-- The tick is one of those that are known to be quiet.
use Rattle.std.proofs.Common.{◌∙◌, subst, sym}
use Rattle.lgx_sched.specs.TableView.{TableView}
use Rattle.lgx_sched.specs.Represents.{RepresentsTable}
use Rattle.lgx_sched.specs.QuietTicks.{IsQuietAt}
use Rattle.lgx_sched.proofs.QuietTicks.{quiet_at}
use Rattle.lgx_sched.proofs.table.TaskTable.is_quiet.Goals as goal

pub returns : goal.returns
returns c = λ s h e.
    subst (λ (v : TableView). IsQuietAt c.args.now v s) c.self.view_is
    (quiet_at _ s c.self.inside.quiet.after c.self.inside.quiet.until c.args.now c.self.invariant.table c.self.invariant.quiet
    (subst (λ v. RepresentsTable v s) (sym c.self.view_is) h) (sym c.contains.ensures ∙ e))
