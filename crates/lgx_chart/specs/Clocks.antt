-- What a picture counts as time.
use Rattle.std.specs.Prelude.{ℕ}
use Rattle.lgx_chart.specs.declared.clock.Clock.{Clock}
use Rattle.lgx_chart.specs.declared.clock.Clock.TheVariants.{Step, Tick}

-- the time of a line, by its tick and its number of steps
abbrev pub time_of : Clock → ℕ → ℕ → ℕ
time_of Step tick step = step
time_of Tick tick step = tick
