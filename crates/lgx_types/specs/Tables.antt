-- What is asked of the table of types, and what it answers.
use Rattle.std.specs.Prelude.{◌^◌, ◌≡◌, ℕ, ◌+◌, ◌*◌, ◌<◌, ◌≤◌, List, [], ◌∷◌, slice_index, length, map, Option, Some, None, ⊤}
use Rattle.std.specs.List.{AllByRecursion as Each}
use Rattle.spec_language.specs.declared.types.Base.{Base}
use Rattle.spec_language.specs.declared.types.Base.TheVariants.{Bool as OneBit, Sint, Int, Dint, Timer, Counter, User}
use Rattle.spec_language.specs.declared.types.DataType.{DataType}
use Rattle.spec_language.specs.declared.types.TypeDecl.{TypeDecl}
use Rattle.spec_language.specs.declared.types.Member.{Member}
use Rattle.spec_language.specs.declared.types.TypeFault.{TypeFault}
use Rattle.spec_base.specs.declared.limits.TheConstants.{MAX_STRUCTURE_BYTES, MAX_ELEMENTS}
use Rattle.spec_language.specs.Layout.{sizes, size_in, begin_after, type_of}
use Rattle.spec_language.specs.LayoutLaws.{IsEven}
use Rattle.spec_language.specs.TypeFaults.{type_fault}
use Rattle.lgx_types.specs.declared.error.TypeError.{TypeError}
use Rattle.lgx_types.specs.declared.error.TypeError.TheVariants.{Fault, Memory}

-- a structure is one of n structures
abbrev pub IsNumbered : ℕ → Base → Type 0
IsNumbered n (User i) = i < n
IsNumbered n OneBit = ⊤
IsNumbered n Sint = ⊤
IsNumbered n Int = ⊤
IsNumbered n Dint = ⊤
IsNumbered n Timer = ⊤
IsNumbered n Counter = ⊤

-- the size of a structure that is let in
abbrev pub IsSmall : ℕ → Type 0
IsSmall size = size ≤ MAX_STRUCTURE_BYTES

-- types that have a size: a structure is one of the table's, and an array of BOOLs has a multiple of 32 elements
pub record HasSize (types : List TypeDecl) (t : DataType) : Type 0 where
  pub declared : IsNumbered (length types) t.base
  pub short : t.dim ≤ MAX_ELEMENTS
  pub even : IsEven t

-- how many members a declaration has
abbrev pub HasMembers : TypeDecl → Type 0
HasMembers d = (0 < length d.members) × (length d.members < 2 ^ 32)

-- an error's fault
abbrev pub fault : TypeError → Option TypeFault
fault (Fault f) = Some f
fault Memory = None

-- the places of members of these types, in order, if what comes before them ends at this byte
abbrev pub places_from : List ℕ → ℕ → List DataType → List Member
places_from sizes at [] = []
places_from sizes at (t ∷ ts) = record { of = t; at = 8 * begin_after at t } ∷ places_from sizes (begin_after at t + size_in sizes t) ts

-- the places of the members of each structure
abbrev pub places_of : List TypeDecl → List (List Member)
places_of types = map (λ d. places_from (sizes types) 0 (map (type_of types) d.members)) types

-- structure i is the first that is too large
pub record IsLarge (bytes : List ℕ) (i : ℕ) : Type 0 where
  pub there : i < length bytes
  pub large : MAX_STRUCTURE_BYTES < slice_index bytes i
  pub before : (j : ℕ) → j < i → slice_index bytes j ≤ MAX_STRUCTURE_BYTES

-- what a table keeps: declarations without a fault, their sizes, and where their members lie
pub record IsTable (types : List TypeDecl) (bytes : List ℕ) (places : List (List Member)) : Type 0 where
  pub few : length types < 2 ^ 32
  pub members : Each HasMembers types
  pub faultless : type_fault types ≡ None
  pub sized : bytes ≡ sizes types
  pub small : Each IsSmall bytes
  pub laid : places ≡ places_of types
