-- Histories and sights as contracts see them.
use Rattle.std.specs.Prelude.{List, [], refl}
use Rattle.std.specs.Coded.{Coded, code_by, coded×}
use Rattle.spec_machine.specs.declared.event.Event.{Event}
use Rattle.atomic_table.specs.Seated.{TableId, table_id_coded}

-- which history it is, and the events that are known of it
pub record HistoryView : Type 0 where
  pub name : TableId
  pub events : List Event

abbrev pub history_view : TableId → List Event → HistoryView
history_view name events = record { name = name; events = events }

abbrev pub history_code : Coded (List Event) → Coded HistoryView
history_code events = code_by (TableId × List Event) (coded× table_id_coded events) (λ h. (h.name, h.events)) (λ p. history_view p.0 p.1) (λ _. refl)

-- the name of no history
abbrev pub no_history : TableId
no_history = record { words = 0; slots = 0; views_name = 0; atom = 0; block = 0; offset = 0; slot_names = [] }
