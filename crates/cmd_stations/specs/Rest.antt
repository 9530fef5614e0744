-- What is left of the text, which is handed out line by line.
use Rattle.std.specs.Prelude.{ℕ, ◌+◌, ◌-◌, List, ◌++◌, drop, length}
use Rattle.lgx_stations.specs.declared.reported.Reported.{Reported}
use Rattle.lgx_judge.specs.declared.ends.End.{End}
use Rattle.lgx_judge.specs.ReportLines.{report_from}
use Rattle.cmd_stations.specs.declared.lines.NextLine.{NextLine}
use Rattle.cmd_stations.specs.declared.lines.NextLine.TheVariants as place

-- the report from its next line on, and the lines of the stations; or these from a byte on
abbrev pub rest_of : Reported → End → List ℕ → NextLine → List ℕ
rest_of r end stations (place.Report next) = report_from r.run.names r.log end next ++ stations
rest_of r end stations (place.Stations at) = drop at stations

-- a number that falls with each line
abbrev pub left_of : Reported → List ℕ → NextLine → ℕ
left_of r stations (place.Report next) = (length r.log.lines + 1 - next) + (length stations + 1)
left_of r stations (place.Stations at) = length stations - at
