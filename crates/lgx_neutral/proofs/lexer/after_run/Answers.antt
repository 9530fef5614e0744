use Rattle.std.proofs.Common.{◌≡◌, true, get_or, sym, ◌∙◌, arith}
use Rattle.lgx_rung.specs.Tokens.{in_run}
use Rattle.lgx_neutral.proofs.Runs.{run_bytes, run_grown}
use Rattle.lgx_neutral.proofs.lexer.after_run.Goals as goal

pub loop-at-preserved : goal.loop-at-preserved
loop-at-preserved c =
    let text = c.args.text.now in
    let goes_on : in_run c.args.inside (get_or text c.loop-at.at 0) ≡ true = sym c.in_run.ensures ∙ c.if-in_run.true in
    record {
      ahead = omega arith;
      within = omega arith;
      all = run_bytes text (in_run c.args.inside) c.args.from c.loop-at.at c.loop-at.invariant.ahead c.loop-at-test.true goes_on c.loop-at.invariant.all;
      same = c.loop-at.invariant.same ∙ run_grown text c.args.inside c.args.from c.loop-at.at c.loop-at.invariant.ahead c.loop-at-test.true goes_on;
    }
