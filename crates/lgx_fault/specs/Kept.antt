-- The faults that are kept: of all that were recorded the last, oldest first.
use Rattle.std.specs.Prelude.{◌≡◌, ◌-◌, List, [], ◌∷◌, ◌++◌, length, drop}
use Rattle.spec_base.specs.declared.limits.TheConstants.{FAULT_LOG_LENGTH}
use Rattle.spec_tables.specs.declared.fault.Fault.{Fault}

abbrev pub last_faults : List Fault → List Fault
last_faults all = drop (length all - FAULT_LOG_LENGTH) all

-- what a log that holds these faults holds after further ones were noted in turn
abbrev pub after_notes : List Fault → List Fault → List Fault
after_notes held [] = held
after_notes held (f ∷ fs) = after_notes (last_faults (held ++ f ∷ [])) fs

-- from an empty log on it holds the last of all that were noted
abbrev pub HoldsTheLast : Type 0
HoldsTheLast = (all : List Fault) → after_notes [] all ≡ last_faults all
