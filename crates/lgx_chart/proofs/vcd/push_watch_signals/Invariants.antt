use Rattle.std.proofs.Common.{◌≡◌, ◌++◌, take}
use Rattle.std.specs.List.{flat_map}
use Rattle.lgx_chart.specs.Vcd.{watch_signal}
use Rattle.lgx_chart.proofs.vcd.push_watch_signals.Given as goal

abbrev pub invariant-loop-place : goal.invariant-loop-place
invariant-loop-place l = l.text.items ≡ l.initial.text.items ++ flat_map watch_signal (take l.place-index l.places)
