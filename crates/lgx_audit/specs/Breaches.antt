-- What breaks a law, and where.
use Rattle.std.specs.Prelude.{◌≡◌, ℕ, zero, suc, ◌+◌, ◌<◌, List, [], ◌∷◌, ◌++◌, take, length, Bool, true, false, not, ◌&&◌, if◌then◌else◌, Option, Some, None, ◌↔◌}
use Rattle.std.specs.List.{list_all}
use Rattle.spec_schedule.specs.declared.trace.TraceEvent.{TraceEvent}
use Rattle.spec_schedule.specs.declared.trace.Table.{Table}
use Rattle.spec_schedule.specs.Counting.{counted_events}
use Rattle.spec_schedule.specs.Legal.{keeps_priority, keeps_turn, gives_way, keeps_version, each_from, Legal}
use Rattle.lgx_audit.specs.TraceTable.{AreInTable}

-- whether a law, by its number, holds of a trace: the priority law, both parts of the turn law, the version law; there is
-- no other
abbrev pub keeps : ℕ → Table → List TraceEvent → Bool
keeps (suc zero) table trace = list_all (keeps_priority table) (counted_events table trace)
keeps (suc (suc zero)) table trace = each_from (keeps_turn table) (counted_events table trace) && each_from (gives_way table) (counted_events table trace)
keeps (suc (suc (suc zero))) table trace = list_all keeps_version (counted_events table trace)
keeps _ table trace = true

-- the events before this one are legal; those up to and with it break the law, and no lesser one
pub record IsBreach (table : Table) (trace : List TraceEvent) (law at : ℕ) : Type 0 where
  pub there : at < length trace
  pub before : Legal table (take at trace)
  pub broken : keeps law table (take (at + 1) trace) ≡ false
  pub lesser : (k : ℕ) → k < law → keeps k table (take (at + 1) trace) ≡ true

-- ---- the same as a function

-- a law, by its number, and the event that breaks it, counted from 0
pub record Breach : Type 0 where
  pub law : ℕ
  pub at : ℕ

-- the least law that doesn't hold, by whether each holds
abbrev pub least : Bool → Bool → Bool → Option ℕ
least first second third = if not first then Some 1 else (if not second then Some 2 else (if not third then Some 3 else None))

-- the least law that a trace breaks
abbrev pub broken_by : Table → List TraceEvent → Option ℕ
broken_by table trace = least (keeps 1 table trace) (keeps 2 table trace) (keeps 3 table trace)

-- the first event after these with which a law is broken, and the least law that is broken with it
abbrev pub breach_from : Table → List TraceEvent → List TraceEvent → Option Breach
breach_from table before [] = None
breach_from table before (e ∷ es) = elim (broken_by table (before ++ e ∷ [])) [
  | Some law ↦ Some (record { law = law; at = length before })
  | None ↦ breach_from table (before ++ e ∷ []) es
]

abbrev pub breach : Table → List TraceEvent → Option Breach
breach table trace = breach_from table [] trace

-- ---- laws: of traces of the table, the function says what is legal, and which breach it is

abbrev pub NoneIsLegal : Type 0
NoneIsLegal = (table : Table) (trace : List TraceEvent) → AreInTable table trace → (breach table trace ≡ None) ↔ Legal table trace

abbrev pub SomeIsBreach : Type 0
SomeIsBreach = (table : Table) (trace : List TraceEvent) (b : Breach) → AreInTable table trace → (breach table trace ≡ Some b) ↔ IsBreach table trace b.law b.at
