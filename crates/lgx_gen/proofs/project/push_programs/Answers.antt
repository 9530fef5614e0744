use Rattle.lgx_gen.proofs.DrawsOn.{state_after-none}
use Rattle.lgx_gen.proofs.ProjectOn.{programs-start, programs-push, programs_drawn}
use Rattle.lgx_gen.proofs.project.push_programs.Goals as goal

pub loop-number-init : goal.loop-number-init
loop-number-init c = record {
  text = programs-start c.args.text.now.items c.args.draws.now;
  draws = state_after-none c.args.draws.now;
}

pub loop-number-preserved : goal.loop-number-preserved
loop-number-preserved c =
    let n = c.args.draws.now in
    let start = c.args.text.now.items in
    let before = c.loop-number.invariant in
    let after = c.in_ok-push_program.ensures in
    let more = programs-push start n c.loop-number.number before.draws in
    let comma = c.in_ok-push_comma.ensures in
    let text = before.text in
    let line = after.text in
    record {
      text = cc;
      draws = programs_drawn n c.loop-number.number before.draws after.draws;
    }
