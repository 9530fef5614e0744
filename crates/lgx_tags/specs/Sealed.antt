-- A table is sealed, or it isn't.
use Rattle.std.specs.Prelude.{Option, Some, None, ⊤}
use Rattle.spec_language.specs.Declarations.{Declarations}
use Rattle.lgx_tags.specs.Sealing.{IsSealOf}
use Rattle.lgx_tags.specs.declared.table.Seal.{Seal}

abbrev pub HoldsWhenSealed : Declarations → Option Seal → Type 0
HoldsWhenSealed d None = ⊤
HoldsWhenSealed d (Some s) = IsSealOf d s.laid.items s.known.items
