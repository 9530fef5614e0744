-- One task more is idle.
use Rattle.std.proofs.Common.{None, get_or, inl, inr, sym, subst, arith}
use Rattle.std.proofs.lemmas.Bool.{cases_eq}
use Rattle.spec_tables.specs.Tasks.{no_task}
use Rattle.lgx_sched.specs.QuietTicks.{IsIdle}
use Rattle.lgx_sched.proofs.QuietTicks.{idle_more}
use Rattle.lgx_sched.proofs.quiet.all_idle_until.Goals as goal

pub loop-t-preserved : goal.loop-t-preserved
loop-t-preserved c = λ n k above below within. elim (cases_eq k c.loop-t.t) [
  | inl e ↦ subst (λ i. IsIdle n c.args.run_since (get_or c.args.defs.now i no_task) (get_or c.args.ups.now i None)) (sym e)
      (idle_more n c.args.run_since c.loop-t.t c.args.defs.now c.args.ups.now _ _ c.loop-t-test.true c.requires.as_many
      (c.idle_until.ensures n above (omega (arith, c.min-until.ensures, below))))
  | inr ne ↦ c.loop-t.invariant n k above (omega (arith, c.min-until.ensures, below)) (omega (arith, within, ne))
]
