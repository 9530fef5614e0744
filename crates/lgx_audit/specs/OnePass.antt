-- That what is watched in one pass decides the turn law.
use Rattle.std.specs.Prelude.{◌≡◌, true, List, length, ◌↔◌}
use Rattle.std.specs.List.{AllByRecursion as Each}
use Rattle.spec_schedule.specs.declared.trace.Table.{Table}
use Rattle.spec_schedule.specs.declared.trace.TraceEvent.{TraceEvent}
use Rattle.spec_schedule.specs.Counting.{counted_events}
use Rattle.spec_schedule.specs.Legal.{each_from, keeps_turn, gives_way}
use Rattle.lgx_audit.specs.Along.{IsWithin}
use Rattle.lgx_audit.specs.Watching.{keeps_turn_now, gives_way_now, passes}

abbrev pub TurnsNowAreTurns : Type 0
TurnsNowAreTurns = (table : Table) (trace : List TraceEvent) → Each (IsWithin (length table.tasks)) trace → (passes (λ w x. keeps_turn_now w.watches x) table trace ≡ true) ↔ (each_from (keeps_turn table) (counted_events table trace) ≡ true)

abbrev pub WaysNowAreWays : Type 0
WaysNowAreWays = (table : Table) (trace : List TraceEvent) → (passes gives_way_now table trace ≡ true) ↔ (each_from (gives_way table) (counted_events table trace) ≡ true)
