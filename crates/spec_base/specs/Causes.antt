-- The fault that an answer names, and whether it is the one that is due.
use Rattle.std.specs.Prelude.{◌≡◌, Option, Some, None, ⊤}

-- an error's fault, where it has one (out of memory has none), is the one that is due
abbrev pub IsFaultOf : {F : Type 0} → Option F → Option F → Type 0
IsFaultOf wanted None = ⊤
IsFaultOf wanted (Some fault) = wanted ≡ Some fault
