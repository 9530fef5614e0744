-- What a table of forces is seen as.
use Rattle.std.specs.Prelude.{◌≡◌, List, map, Option, option_map, Result, Ok, Err}
use Rattle.spec_tables.specs.Forces.{Force, Forces}
use Rattle.spec_tables.specs.declared.force.ForceFault.{ForceFault}
use Rattle.lgx_force.specs.declared.table.StoredForce.{StoredForce}

-- a force as it is kept
abbrev pub force_of : StoredForce → Force
force_of k = record { mask = k.mask; value = k.value }

abbrev pub forces_of : List (Option StoredForce) → List (Option Force)
forces_of kept = map (option_map force_of) kept

-- What a call answers and leaves is what the definition gives. After a refusal the table is as before.
abbrev pub AnswersForce : Result Forces ForceFault → Forces → Forces → Result (Unit {0}) ForceFault → Type 0
AnswersForce (Ok after) before new answer = (answer ≡ Ok tt) × (new ≡ after)
AnswersForce (Err fault) before new answer = (answer ≡ Err fault) × (new ≡ before)
