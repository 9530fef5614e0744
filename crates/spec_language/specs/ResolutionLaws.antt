-- What is found lies in the image, whatever its subscripts are: the words for it, and the law.
use Rattle.std.specs.Prelude.{◌≡◌, ℕ, zero, suc, ◌+◌, ◌*◌, ◌≤◌, List, [], length, Ok, ⊤}
use Rattle.lgx_num.specs.Image.{IsByteAligned}
use Rattle.spec_language.specs.declared.types.DataType.{DataType}
use Rattle.spec_language.specs.declared.types.TypeDecl.{TypeDecl}
use Rattle.spec_language.specs.declared.tag.Scope.{Scope}
use Rattle.spec_language.specs.declared.tag.Found.{Found}
use Rattle.spec_language.specs.LayoutLaws.{HasBytes, IsSoundType, SoundTypes}
use Rattle.spec_language.specs.Declarations.{Meaning, tag, alias, Declarations, bytes}
use Rattle.std.specs.List.{AllByRecursion as Each}
use Rattle.spec_base.specs.declared.limits.TheConstants.{MAX_SUBSCRIPTS}
use Rattle.lgx_num.specs.Paths.{CanReach, SubscriptsInBounds}
use Rattle.spec_language.specs.Resolution.{kind_of, stride, found, found_fixed}

-- ---- what is asked of declarations

-- each tag's type is sound
abbrev pub IsSoundMeaning : List TypeDecl → Meaning → Type 0
IsSoundMeaning types (tag of) = IsSoundType types of
IsSoundMeaning types (alias target) = ⊤

pub record Sound (d : Declarations) : Type 0 where
  pub types : SoundTypes d.types
  pub tags : Each (λ e. IsSoundMeaning d.types e.meaning) d.entries

-- ---- what lies in the image

-- the bits of a type: an array has those of its elements
abbrev pub elements : ℕ → ℕ
elements zero = 1
elements (suc n) = suc n

abbrev pub width : List TypeDecl → DataType → ℕ
width types t = elements t.dim * stride types t.base

-- a place of this type at this bit ends at or before a byte and, but for BOOLs, begins on one
abbrev pub EndsBy : List TypeDecl → DataType → ℕ → ℕ → Type 0
EndsBy types of stop at = IsByteAligned (kind_of of.base) at × (at + width types of ≤ 8 * stop)

pub record LiesIn (types : List TypeDecl) (len : ℕ) (f : Found) : Type 0 where
  -- each subscript lies in the image, on a byte, and there are not too many
  pub subscripts : SubscriptsInBounds f.steps len
  pub few : length f.steps ≤ MAX_SUBSCRIPTS
  -- wherever they lead, the place ends within its tag, and the tag within the image
  pub inside : (to : ℕ) → CanReach f.steps f.at to → EndsBy types f.of f.stop to
  pub stop : f.stop ≤ len
  -- an element of its type has a byte at least
  pub filled : HasBytes types f.of

abbrev pub FoundInBounds : Type 0
FoundInBounds = (d : Declarations) (scope : Scope) (text : List ℕ) (f : Found) → Sound d → found d scope text ≡ Ok f → LiesIn d.types (bytes d) f

-- if numbers alone are subscripts, nothing moves the place
abbrev pub FixedInBounds : Type 0
FixedInBounds = (d : Declarations) (scope : Scope) (text : List ℕ) (f : Found) → Sound d → found_fixed d scope text ≡ Ok f → LiesIn d.types (bytes d) f × (f.steps ≡ [])
