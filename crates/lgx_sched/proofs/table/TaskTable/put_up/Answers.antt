-- A task that is down has room in its queue, and the table stays one.
use Rattle.std.proofs.Common.{◌≡◌, List, [], None, length, ◌<◌, ap, ◌∙◌, subst, sym}
use Rattle.spec_tables.specs.declared.task.TaskDef.{TaskDef}
use Rattle.lgx_sched.specs.TableView.{TableView, up_of, place_of}
use Rattle.lgx_sched.proofs.Tables.{up_from}
use Rattle.lgx_sched.proofs.Sound.{room-up}
use Rattle.lgx_sched.proofs.QuietTicks.{quiet-none}
use Rattle.lgx_sched.proofs.table.TaskTable.put_up.Goals as goal

pub push_last-requires-clause-room : goal.push_last-requires-clause-room
push_last-requires-clause-room c =
    room-up _ c.args.t _ c.self.invariant.table.0
    (subst (λ (v : TableView). c.args.t < length v.defs) (sym c.self.view_is) c.requires.task)
    (subst (λ (v : TableView). up_of v c.args.t ≡ None) (sym c.self.view_is) c.requires.down)

pub invariant_of-self : goal.invariant_of-self
invariant_of-self c = record {
  table = up_from _ c.args.t c.args.now _ _ c.self.invariant.table
      (subst (λ (v : TableView). c.args.t < length v.defs) (sym c.self.view_is) c.requires.task)
      (subst (λ (v : TableView). up_of v c.args.t ≡ None) (sym c.self.view_is) c.requires.down)
      (c.place-place.ensures ∙ ap (λ (xs : List TaskDef). place_of (record { defs = xs; ups = []; queues = []; open_task = None; run_since = 0 }) c.args.t) c.as_slice.ensures)
      c.push_last.ensures;
  quiet = quiet-none _ c.self.inside.quiet.after;
}
