use Rattle.lgx_gen.proofs.DrawsOn.{next_state_is, next_draw_is}
use Rattle.lgx_gen.proofs.ProjectOn.{rung-drawn}
use Rattle.lgx_gen.proofs.rungs.push_rung.Goals as goal

pub returns-clause-text : goal.returns-clause-text
returns-clause-text c =
    let n = c.args.draws.now in
    let second = next_state_is 1 c.below-number.new.self n c.below-number.ensures.state c.below-i.ensures.state in
    let third = next_state_is 2 c.below-i.new.self n second c.below-j.ensures.state in
    let i = next_draw_is 1 c.below-number.new.self 16 n c.below-number.ensures.state c.below-i.ensures.drawn in
    let j = next_draw_is 2 c.below-i.new.self 16 n second c.below-j.ensures.drawn in
    let k = next_draw_is 3 c.below-j.new.self 4 n third c.below-k.ensures.drawn in
    rw (← rung-drawn n c.below-number.ensures.drawn i j k) c.push_form.ensures

pub returns-clause-draws : goal.returns-clause-draws
returns-clause-draws c =
    let n = c.args.draws.now in
    let second = next_state_is 1 c.below-number.new.self n c.below-number.ensures.state c.below-i.ensures.state in
    let third = next_state_is 2 c.below-i.new.self n second c.below-j.ensures.state in
    next_state_is 3 c.below-j.new.self n third c.below-k.ensures.state
