-- Sizes that have settled, and laws of layout.
use Rattle.std.specs.Prelude.{◌≡◌, ℕ, ◌%◌, ◌<◌, true, false, List, map, length, None, ⊤}
use Rattle.std.specs.List.{AllByRecursion as Each}
use Rattle.spec_language.specs.declared.types.Base.{Base}
use Rattle.spec_language.specs.declared.types.Base.TheVariants.{Bool as OneBit, Sint, Int, Dint, Timer, Counter, User}
use Rattle.spec_language.specs.declared.types.DataType.{DataType}
use Rattle.spec_language.specs.declared.types.TypeDecl.{TypeDecl}
use Rattle.spec_language.specs.Layout.{single, type_of, structure_in, sizes, size_of}
use Rattle.spec_language.specs.TypeFaults.{among, parts, reaches_itself, type_fault}

-- ---- sound types

-- the length of an array of BOOLs is a multiple of 32
abbrev pub IsEvenOf : Base → ℕ → Type 0
IsEvenOf OneBit dim = dim % 32 ≡ 0
IsEvenOf Sint dim = ⊤
IsEvenOf Int dim = ⊤
IsEvenOf Dint dim = ⊤
IsEvenOf Timer dim = ⊤
IsEvenOf Counter dim = ⊤
IsEvenOf (User i) dim = ⊤

abbrev pub IsEven : DataType → Type 0
IsEven t = IsEvenOf t.base t.dim

-- an element of the type has a byte at least: a structure is one that was declared, and isn't empty
abbrev pub HasBytes : List TypeDecl → DataType → Type 0
HasBytes types t = 0 < size_of types (single t.base)

abbrev pub IsSoundType : List TypeDecl → DataType → Type 0
IsSoundType types t = IsEven t × HasBytes types t

-- the sizes of the structures are those that their members give with these same sizes, and every member's type is sound
pub record SoundTypes (types : List TypeDecl) : Type 0 where
  pub settled : map (structure_in types (sizes types)) types ≡ sizes types
  pub members : Each (λ d. Each (λ m. IsSoundType types (type_of types m)) d.members) types

-- ---- laws

-- if declared structures have no fault and each has a member, their sizes have settled: the rounds over how deep they
-- are nested have gone far enough
abbrev pub FaultlessIsSound : Type 0
FaultlessIsSound = (types : List TypeDecl) → Each (λ d. 0 < length d.members) types → type_fault types ≡ None → SoundTypes types

-- and no other sizes are those that the members give with these same sizes
abbrev pub SizesAreTheOnly : Type 0
SizesAreTheOnly = (types : List TypeDecl) (others : List ℕ) → type_fault types ≡ None → map (structure_in types others) types ≡ others → others ≡ sizes types

-- if structures can be numbered so that each is above those inside it, none reaches itself
abbrev pub OrderedHasNoRings : Type 0
OrderedHasNoRings = (types : List TypeDecl) (order : ℕ → ℕ) → ((i j : ℕ) → among (parts types i) j ≡ true → order j < order i) → (i : ℕ) → reaches_itself types i ≡ false
