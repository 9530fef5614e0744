-- The two numbers that a timer is refused for.
use Rattle.std.specs.Prelude.{ℕ, List}
use Rattle.spec_scan.specs.StatusWords.{pre, acc}
use Rattle.lgx_time.specs.declared.timers.Negative.{Negative}

-- the preset and the accumulator that a timer keeps
abbrev pub kept_numbers : List ℕ → ℕ → Negative
kept_numbers image at = record { pre = pre image at; acc = acc image at }
