use Rattle.std.proofs.Common.{◌≡◌, ◌≤◌, All, vec_len, vec_capacity}
use Rattle.lgx_hmi.specs.StationViews.{opening_view}
use Rattle.lgx_hmi.proofs.board.seat.Given as goal

abbrev pub invariant-loop : goal.invariant-loop
invariant-loop g l = (vec_len l.list ≡ l.counter) × (l.stations ≤ vec_capacity l.list) × All (λ s. s ≡ opening_view l.first) l.list.items
