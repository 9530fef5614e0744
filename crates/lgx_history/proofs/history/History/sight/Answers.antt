use Rattle.std.proofs.Common.{ap, arith}
use Rattle.lgx_history.proofs.Beginnings.{gives}
use Rattle.lgx_history.proofs.history.History.sight.Goals as goal

pub split_seat-seat-requires : goal.split_seat-seat-requires
split_seat-seat-requires c =
    let i = c.self.invariant in
    (i.1, omega (arith, i.0), gives c.self.inside.keeper.id c.self.inside.keeper.me.0 (ap (λ v. v.keeps) i.2))
