-- Where what a text names begins.
use Rattle.std.specs.Prelude.{◌≡◌, ℕ, ◌%◌, List, Ok}
use Rattle.lgx_num.specs.Image.{bits_of}
use Rattle.spec_language.specs.declared.types.Base.{Base}
use Rattle.spec_language.specs.declared.tag.Scope.{Scope}
use Rattle.spec_language.specs.declared.tag.Found.{Found}
use Rattle.spec_language.specs.Declarations.{Declarations}
use Rattle.spec_language.specs.Resolution.{kind_of, found_fixed}

-- a number begins at a multiple of its bits, a bit anywhere, and what is spoken of by its first DINT as that does
abbrev pub IsAlignedFor : Base → ℕ → Type 0
IsAlignedFor base at = at % bits_of (kind_of base) ≡ 0

abbrev pub IsAligned : Found → Type 0
IsAligned f = IsAlignedFor f.of.base f.at

-- whatever is declared, also if it is refused
abbrev pub FixedIsAligned : Type 0
FixedIsAligned = (d : Declarations) (scope : Scope) (text : List ℕ) (f : Found) → found_fixed d scope text ≡ Ok f → IsAligned f
