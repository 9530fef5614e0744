-- The table stays one when all its tasks are down.
use Rattle.std.proofs.Common.{None, replicate, ap, ◌∙◌}
use Rattle.spec_tables.proofs.StateLists.{none_alone}
use Rattle.lgx_sched.proofs.Calls.{none_from}
use Rattle.lgx_sched.proofs.QuietTicks.{quiet-none}
use Rattle.lgx_sched.proofs.table.TaskTable.put_all_down.Goals as goal

pub invariant_of-self : goal.invariant_of-self
invariant_of-self c = record {
  table = none_from _ c.args.run_since _ _ c.self.invariant.table (c.fill.ensures.items (none_alone _ (λ x h. h)) ∙ ap (λ n. replicate n None) c.self.inside.ups.ok.0) c.clear.ensures;
  quiet = quiet-none _ c.self.inside.quiet.after;
}
