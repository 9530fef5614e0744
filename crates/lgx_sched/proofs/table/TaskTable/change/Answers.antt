-- The table stays one, and knows whether the task has something open.
use Rattle.std.proofs.Common.{◌≡◌, Some, None, subst, sym, arith}
use Rattle.std.proofs.lemmas.List.{get_or_read}
use Rattle.lgx_sched.specs.TableView.{TableView, next_task}
use Rattle.lgx_sched.proofs.Tables.{known_task}
use Rattle.lgx_sched.proofs.Calls.{with_from}
use Rattle.lgx_sched.proofs.QuietTicks.{quiet-with}
use Rattle.lgx_sched.proofs.table.TaskTable.change.Goals as goal

pub index_mut-requires : goal.index_mut-requires
index_mut-requires c =
    let l = known_task _ c.args.t c.self.invariant.table (subst (λ (v : TableView). next_task v ≡ Some c.args.t) (sym c.self.view_is) c.requires.chosen) in
    let same = c.self.invariant.table.0.as_many in
    omega arith

pub index-requires : goal.index-requires
index-requires c =
    let l = known_task _ c.args.t c.self.invariant.table (subst (λ (v : TableView). next_task v ≡ Some c.args.t) (sym c.self.view_is) c.requires.chosen) in
    let same = c.self.invariant.table.0.as_many in
    omega arith

pub invariant_of-self : goal.invariant_of-self
invariant_of-self c = record {
  table = with_from _ c.args.t c.args.up _ c.self.invariant.table (subst (λ (v : TableView). next_task v ≡ Some c.args.t) (sym c.self.view_is) c.requires.chosen) c.task_if_open-open_task.ensures;
  quiet =
      let l = known_task _ c.args.t c.self.invariant.table (subst (λ (v : TableView). next_task v ≡ Some c.args.t) (sym c.self.view_is) c.requires.chosen) in
      let same = c.self.invariant.table.0.as_many in
      quiet-with _ c.args.t c.self.inside.quiet.after c.self.inside.quiet.until c.kept_until-until.result _ c.index.result.now c.args.up (omega arith)
      (get_or_read c.self.inside.ups.items c.args.t _ (omega arith) c.index.ensures None) c.kept_until-until.ensures c.self.invariant.quiet;
}
