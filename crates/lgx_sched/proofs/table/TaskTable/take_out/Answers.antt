-- The task that is to run is the first of its queue, and the table stays one without it.
use Rattle.std.proofs.Common.{◌≡◌, List, [], Some, None, length, ◌<◌, ap, ◌∙◌, subst, sym, arith}
use Rattle.spec_tables.specs.declared.task.TaskDef.{TaskDef}
use Rattle.lgx_sched.specs.TableView.{TableView, def_of, place_of, next_task}
use Rattle.lgx_sched.proofs.Tables.{down_from, known_task}
use Rattle.lgx_sched.proofs.QuietTicks.{quiet-none}
use Rattle.lgx_sched.proofs.table.TaskTable.take_out.Goals as goal

pub place-place-requires-clause-task : goal.place-place-requires-clause-task
place-place-requires-clause-task c =
    subst (λ (xs : List TaskDef). c.args.t < length xs) (sym c.as_slice.ensures)
    (known_task _ c.args.t c.self.invariant.table (subst (λ (v : TableView). next_task v ≡ Some c.args.t) (sym c.self.view_is) c.requires.chosen))

pub place-place-requires-clause-priority : goal.place-place-requires-clause-priority
place-place-requires-clause-priority c =
    subst (λ (xs : List TaskDef). 0 < (def_of (record { defs = xs; ups = []; queues = []; open_task = None; run_since = 0 }) c.args.t).priority) (sym c.as_slice.ensures)
    ((c.self.invariant.table.0.priorities c.args.t
    (known_task _ c.args.t c.self.invariant.table (subst (λ (v : TableView). next_task v ≡ Some c.args.t) (sym c.self.view_is) c.requires.chosen))).0)

pub index_mut-requires : goal.index_mut-requires
index_mut-requires c =
    let l = known_task _ c.args.t c.self.invariant.table (subst (λ (v : TableView). next_task v ≡ Some c.args.t) (sym c.self.view_is) c.requires.chosen) in
    let same = c.self.invariant.table.0.as_many in
    omega arith

pub invariant_of-self : goal.invariant_of-self
invariant_of-self c = record {
  table = down_from _ c.args.t _ _ c.self.invariant.table
      (subst (λ (v : TableView). next_task v ≡ Some c.args.t) (sym c.self.view_is) c.requires.chosen)
      (c.place-place.ensures ∙ ap (λ (xs : List TaskDef). place_of (record { defs = xs; ups = []; queues = []; open_task = None; run_since = 0 }) c.args.t) c.as_slice.ensures)
      c.pop_first.ensures;
  quiet = quiet-none _ c.self.inside.quiet.after;
}
