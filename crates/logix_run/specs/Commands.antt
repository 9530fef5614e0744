-- A command of the code, as contracts see it.
use Rattle.std.specs.Prelude.{⊤, ◌<◌, ◌≤◌}
use Rattle.lgx_stations.specs.declared.stations.TheConstants.{MAX_STATIONS}
use Rattle.logix_run.specs.declared.command.Command.{Command}
use Rattle.logix_run.specs.declared.command.Command.TheVariants.{Check, Text, Migrate, Xref, Gen, Replay, Trace, Audit, Run, Link, Stations, Usage}
use Rattle.logix_run.specs.Words as words

abbrev pub said : Command → words.Command
said (Check p) = words.Check p.now
said (Text p) = words.Text p.now
said (Migrate p) = words.Migrate p.now
said (Xref p) = words.Xref p.now
said (Gen n) = words.Gen n
said (Replay p j) = words.Replay p.now j.now
said (Trace p j) = words.Trace p.now j.now
said (Audit p t) = words.Audit p.now t.now
said (Run p s) = words.Run p.now s.now
said (Link a b l) = words.Link a.now b.now l.now
said (Stations p j c) = words.Stations p.now j.now c
said Usage = words.Usage

-- where stations watch, there are 1 to 8
abbrev pub HasStations : Command → Type 0
HasStations (Stations p j c) = (0 < c) × (c ≤ MAX_STATIONS)
HasStations _ = ⊤
