-- Which commands ask for stations.
use Rattle.std.proofs.Common.{◌≡◌, ℕ, Some, refl}
use Rattle.logix_run.specs.Words.{stations_of}
use Rattle.logix_run.specs.Commands.{said}
use Rattle.logix_run.specs.declared.command.Command.{Command}
use Rattle.logix_run.specs.declared.command.Command.TheVariants.{Check, Text, Migrate, Xref, Gen, Replay, Trace, Audit, Run, Link, Stations, Usage}

-- none but the one that is named so
pub no_stations : (command : Command) (count : ℕ) → ((p : _) (j : _) (c : ℕ) → command ≡ Stations p j c → ⊥) → stations_of (said command) ≡ Some count → ⊥
no_stations (Check p) count other is = cc is
no_stations (Text p) count other is = cc is
no_stations (Migrate p) count other is = cc is
no_stations (Xref p) count other is = cc is
no_stations (Gen n) count other is = cc is
no_stations (Replay p j) count other is = cc is
no_stations (Trace p j) count other is = cc is
no_stations (Audit p t) count other is = cc is
no_stations (Run p s) count other is = cc is
no_stations (Link a b l) count other is = cc is
no_stations (Stations p j c) count other is = other p j c refl
no_stations Usage count other is = cc is
