use Rattle.std.proofs.Common.{◌∙◌}
use Rattle.lgx_picture.proofs.Cuts.{some_marks, one_run_more}
use Rattle.lgx_picture.proofs.runs.push_runs.Goals as goal

pub loop-rest-preserved : goal.loop-rest-preserved
loop-rest-preserved c =
    one_run_more c.args.scale c.args.top c.loop-rest.text.items c.push_run.new.text.items c.loop-rest.rest.now c.first_run-count.result c.split_at.result.0.now c.split_at.result.1.now c.first_x.result (some_marks c.is_empty.result c.loop-rest.rest.now c.is_empty.ensures c.loop-rest-test.true) c.first_run-count.ensures.value c.split_at.ensures.front c.split_at.ensures.back c.first_x.ensures c.in_ok-push_run.ensures
    ∙ c.loop-rest.invariant
