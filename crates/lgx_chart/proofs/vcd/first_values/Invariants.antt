use Rattle.std.proofs.Common.{◌≡◌, take}
use Rattle.std.specs.List.{flat_map}
use Rattle.lgx_chart.specs.Vcd.{first_value}
use Rattle.lgx_chart.proofs.vcd.first_values.Given as goal

abbrev pub invariant-loop-place : goal.invariant-loop-place
invariant-loop-place l = l.text.items ≡ flat_map first_value (take l.place-index l.places)
