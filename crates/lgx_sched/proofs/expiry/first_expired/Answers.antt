-- The first that has run out, one task on.
use Rattle.std.proofs.Common.{sym, ◌∙◌}
use Rattle.lgx_sched.proofs.Calls.{run_out_found, run_out_later, run_out_end}
use Rattle.lgx_sched.proofs.expiry.first_expired.Goals as goal

pub returns-then-has_run_out-clause-value : goal.returns-then-has_run_out-clause-value
returns-then-has_run_out-clause-value c =
    run_out_found c.args.now c.loop-t.t c.args.defs.now c.args.ups.now _ _ c.loop-t-test.true c.requires.as_many c.loop-t.invariant (sym c.has_run_out.ensures ∙ c.if-has_run_out.true)

pub loop-t-preserved : goal.loop-t-preserved
loop-t-preserved c =
    run_out_later c.args.now c.loop-t.t c.args.defs.now c.args.ups.now _ _ c.loop-t-test.true c.requires.as_many c.loop-t.invariant (sym c.has_run_out.ensures ∙ c.if-has_run_out.false)

pub returns-clause-value : goal.returns-clause-value
returns-clause-value c = run_out_end c.args.now c.loop-t.t c.args.defs.now c.args.ups.now c.loop-t-test.false c.requires.as_many c.loop-t.invariant
