-- The front has room at the end of its own queue, and the table stays one.
use Rattle.std.proofs.Common.{◌≡◌, List, [], Some, None, length, ◌<◌, ap, ◌∙◌, subst, sym}
use Rattle.spec_tables.specs.declared.task.TaskDef.{TaskDef}
use Rattle.lgx_sched.specs.TableView.{TableView, def_of, place_of, front_of}
use Rattle.lgx_sched.proofs.Tables.{last_from, known_front, room_for_last}
use Rattle.lgx_sched.proofs.QuietTicks.{quiet-none}
use Rattle.lgx_sched.proofs.table.TaskTable.put_last.Goals as goal

pub place-place-requires-clause-task : goal.place-place-requires-clause-task
place-place-requires-clause-task c =
    subst (λ (xs : List TaskDef). c.args.t < length xs) (sym c.as_slice.ensures)
    (known_front _ c.args.t c.self.invariant.table
    (subst (λ (v : TableView). v.open_task ≡ None) (sym c.self.view_is) c.requires.none_open)
    (subst (λ (v : TableView). front_of v.queues ≡ Some c.args.t) (sym c.self.view_is) c.requires.front))

pub place-place-requires-clause-priority : goal.place-place-requires-clause-priority
place-place-requires-clause-priority c =
    subst (λ (xs : List TaskDef). 0 < (def_of (record { defs = xs; ups = []; queues = []; open_task = None; run_since = 0 }) c.args.t).priority) (sym c.as_slice.ensures)
    ((c.self.invariant.table.0.priorities c.args.t
    (known_front _ c.args.t c.self.invariant.table
    (subst (λ (v : TableView). v.open_task ≡ None) (sym c.self.view_is) c.requires.none_open)
    (subst (λ (v : TableView). front_of v.queues ≡ Some c.args.t) (sym c.self.view_is) c.requires.front))).0)

pub push_last-requires-clause-room : goal.push_last-requires-clause-room
push_last-requires-clause-room c =
    room_for_last _ c.args.t _ _ c.self.invariant.table
    (subst (λ (v : TableView). v.open_task ≡ None) (sym c.self.view_is) c.requires.none_open)
    (subst (λ (v : TableView). front_of v.queues ≡ Some c.args.t) (sym c.self.view_is) c.requires.front)
    (c.place-place.ensures ∙ ap (λ (xs : List TaskDef). place_of (record { defs = xs; ups = []; queues = []; open_task = None; run_since = 0 }) c.args.t) c.as_slice.ensures)
    c.pop_first.ensures

pub invariant_of-self : goal.invariant_of-self
invariant_of-self c = record {
  table = last_from _ c.args.t _ _ _ c.self.invariant.table
      (subst (λ (v : TableView). v.open_task ≡ None) (sym c.self.view_is) c.requires.none_open)
      (subst (λ (v : TableView). front_of v.queues ≡ Some c.args.t) (sym c.self.view_is) c.requires.front)
      (c.place-place.ensures ∙ ap (λ (xs : List TaskDef). place_of (record { defs = xs; ups = []; queues = []; open_task = None; run_since = 0 }) c.args.t) c.as_slice.ensures)
      c.pop_first.ensures c.push_last.ensures;
  quiet = quiet-none _ c.self.inside.quiet.after;
}
