use Rattle.std.proofs.Common.{◌*◌, ◌^◌}
use Rattle.std.proofs.Math.Nat.{mod-add-mod}
use Rattle.lgx_gen.proofs.DrawsOn.{state_after-one, draw-first}
use Rattle.lgx_gen.proofs.draws.Draws.below.Goals as goal

pub returns-clause-drawn : goal.returns-clause-drawn
returns-clause-drawn c =
    let stepped = mod-add-mod (c.self.inside.state * 1664525) (2 ^ 32) 1013904223 in
    let given = draw-first c.args.self.now c.args.bound in
    rw (stepped, given) (cc c.self.view_is)

pub returns-clause-state : goal.returns-clause-state
returns-clause-state c =
    let stepped = mod-add-mod (c.self.inside.state * 1664525) (2 ^ 32) 1013904223 in
    let given = state_after-one c.args.self.now in
    rw (stepped, given) (cc c.self.view_is)
