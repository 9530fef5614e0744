-- A table that was just made represents the list in which all tasks are down.
use Rattle.std.proofs.Common.{◌∙◌, subst}
use Rattle.lgx_sched.specs.TableView.{TableView}
use Rattle.lgx_sched.specs.Represents.{RepresentsTable, IsTable, none_up}
use Rattle.spec_tables.proofs.StateLists.{none_alone}
use Rattle.lgx_sched.proofs.Made.{table-fresh, represents-fresh, fresh_from}
use Rattle.lgx_sched.proofs.QuietTicks.{quiet-none}
use Rattle.lgx_sched.proofs.table.TaskTable.new.Goals as goal

pub invariant_of-result : goal.invariant_of-result
invariant_of-result c = record {
  table = subst IsTable (fresh_from c.args.defs.now _ _ _ (c.of.ensures ∙ c.in_ok-kept.ensures.items) (c.in_ok-ups.ensures.items_if_clones_equal (none_alone _ (λ x h. h))) c.in_ok-queues.ensures)
      (table-fresh c.args.defs.now c.requires.few c.requires.priorities c.requires.periods);
  quiet = quiet-none _ 0;
}

pub returns-clause-represents : goal.returns-clause-represents
returns-clause-represents c = λ next.
    subst (λ (v : TableView). RepresentsTable v (none_up c.args.defs.now next)) (fresh_from c.args.defs.now _ _ _ (c.of.ensures ∙ c.in_ok-kept.ensures.items) (c.in_ok-ups.ensures.items_if_clones_equal (none_alone _ (λ x h. h))) c.in_ok-queues.ensures)
    (represents-fresh c.args.defs.now next)
