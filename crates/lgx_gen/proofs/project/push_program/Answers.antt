use Rattle.std.proofs.Common.{◌≡◌, arith, append_assoc}
use Rattle.lgx_gen.specs.ProjectText.{program}
use Rattle.lgx_gen.proofs.DrawsOn.{state_after-none}
use Rattle.lgx_gen.proofs.ProjectOn.{rung_lines-start, rung_lines-push, rungs_drawn}
use Rattle.lgx_gen.proofs.project.push_program.Goals as goal

pub loop-rung-init : goal.loop-rung-init
loop-rung-init c = record {
  text = rung_lines-start c.extend_from_slice.new.self.items c.args.draws.now;
  draws = state_after-none c.args.draws.now;
}

pub loop-rung-preserved : goal.loop-rung-preserved
loop-rung-preserved c =
    let n = c.args.draws.now in
    let start = c.extend_from_slice.new.self.items in
    let before = c.loop-rung.invariant in
    let after = c.in_ok-push_rung_line.ensures in
    let more = rung_lines-push start n c.loop-rung.rung before.draws in
    let comma = c.in_ok-push_comma.ensures in
    let text = before.text in
    let line = after.text in
    record {
      text = cc;
      draws = rungs_drawn n c.loop-rung.rung before.draws after.draws;
    }

pub returns-clause-text : goal.returns-clause-text
unfolding program
returns-clause-text c =
    let done : c.loop-rung.rung ≡ 32 = omega arith in
    rw (
      c.in_ok-extend_from_slice-2.ensures.items,
      c.loop-rung.invariant.text,
      done,
      c.in_ok-extend_from_slice.ensures.items,
      c.in_ok-push_numbered.ensures,
    ) (simp append_assoc)
