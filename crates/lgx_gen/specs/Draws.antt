-- The numbers that are drawn from n.
use Rattle.std.specs.Prelude.{ℕ, ◌+◌, ◌*◌, ◌/◌, ◌%◌, ◌^◌}
use Rattle.std.specs.Fn.{iterate}

-- the state after a draw
abbrev pub next_state : ℕ → ℕ
next_state state = (state * 1664525 + 1013904223) % 2 ^ 32

-- the state after `draws` draws; before the first it is n
unfoldable pub state_after : ℕ → ℕ → ℕ
state_after draws n = iterate next_state draws n

-- draw number k, below m; the first draw is number 0
unfoldable pub draw : ℕ → ℕ → ℕ → ℕ
draw n k m = state_after (k + 1) n / 65536 % m
