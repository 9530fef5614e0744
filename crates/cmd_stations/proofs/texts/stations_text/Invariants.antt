use Rattle.std.proofs.Common.{◌≡◌, ◌++◌, drop}
use Rattle.cmd_stations.specs.StationsText.{lines_from}
use Rattle.cmd_stations.proofs.texts.stations_text.Given as goal

-- the lines so far, and those that are left
abbrev pub invariant-loop-station : goal.invariant-loop-station
invariant-loop-station l = l.text.items ++ lines_from l.station (drop l.station l.readings) ≡ lines_from 0 l.readings
