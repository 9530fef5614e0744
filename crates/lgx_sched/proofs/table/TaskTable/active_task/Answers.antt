-- The task that is to run is up.
use Rattle.std.proofs.Common.{◌≡◌, [], Some, None, ap, ◌∙◌, subst, sym, arith}
use Rattle.lgx_sched.specs.TableView.{TableView, up_of, next_task}
use Rattle.std.proofs.lemmas.List.{get_or_read}
use Rattle.lgx_sched.proofs.Tables.{known_task}
use Rattle.lgx_sched.proofs.Calls.{chosen_up}
use Rattle.lgx_sched.proofs.table.TaskTable.active_task.Goals as goal

pub index-requires : goal.index-requires
index-requires c =
    let l = known_task _ c.args.t c.self.invariant.table (subst (λ (v : TableView). next_task v ≡ Some c.args.t) (sym c.self.view_is) c.requires.chosen) in
    let same = c.self.invariant.table.0.as_many in
    omega arith

pub unreachable-requires : goal.unreachable-requires
unreachable-requires c =
    let l = known_task _ c.args.t c.self.invariant.table (subst (λ (v : TableView). next_task v ≡ Some c.args.t) (sym c.self.view_is) c.requires.chosen) in
    let same = c.self.invariant.table.0.as_many in
    let u = chosen_up _ c.args.t c.self.invariant.table (subst (λ (v : TableView). next_task v ≡ Some c.args.t) (sym c.self.view_is) c.requires.chosen) in
    let read : c.index.result.now ≡ up_of (record { defs = []; ups = c.self.inside.ups.items; queues = []; open_task = None; run_since = 0 }) c.args.t = get_or_read c.self.inside.ups.items c.args.t _ (omega arith) c.index.ensures None in
    let none = c.in-None.is in
    let some = u.1 in
    cc

pub returns-clause-up : goal.returns-clause-up
returns-clause-up c =
    let l = known_task _ c.args.t c.self.invariant.table (subst (λ (v : TableView). next_task v ≡ Some c.args.t) (sym c.self.view_is) c.requires.chosen) in
    let same = c.self.invariant.table.0.as_many in
    ap (λ (v : TableView). up_of v c.args.t) (sym c.self.view_is)
    ∙ (sym (get_or_read c.self.inside.ups.items c.args.t _ (omega arith) c.index.ensures None) ∙ c.in-Some.is)
