-- The front is one of the table's tasks.
use Rattle.std.proofs.Common.{length, ◌<◌, ◌∙◌, subst, sym}
use Rattle.lgx_sched.specs.TableView.{TableView}
use Rattle.lgx_sched.proofs.QuietTicks.{front-known}
use Rattle.lgx_sched.proofs.table.TaskTable.keeps_turn.Goals as goal

pub is_alone-requires : goal.is_alone-requires
is_alone-requires c = record {
  task = subst (λ (v : TableView). c.in-Some.t < length v.defs) c.self.view_is
      (front-known _ c.in-Some.t c.self.invariant.table (sym c.front.ensures ∙ c.in-Some.is));
}
