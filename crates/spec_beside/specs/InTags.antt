-- What a text and an operand name lies in one tag: what the words on operands of the cross reference rest on.
use Rattle.std.specs.Prelude.{◌≡◌, ℕ, ◌+◌, ◌*◌, ◌/◌, ◌<◌, ◌≤◌, List, length, Ok}
use Rattle.std.specs.List.{AllByRecursion as Each}
use Rattle.lgx_num.specs.declared.place.Index.{Index}
use Rattle.lgx_num.specs.declared.place.Operand.{Operand}
use Rattle.lgx_num.specs.declared.place.Path.{Path}
use Rattle.lgx_num.specs.declared.place.Place.{Place}
use Rattle.lgx_num.specs.Number.{bytes_in}
use Rattle.lgx_num.specs.Paths.{CanReach}
use Rattle.lgx_rung.specs.declared.ins.Ins.{Ins}
use Rattle.lgx_rung.specs.Tree.{Source, Tree, instructions}
use Rattle.spec_language.specs.declared.tag.Found.{Found}
use Rattle.spec_language.specs.declared.tag.Scope.{Scope}
use Rattle.spec_language.specs.Checked.{CheckScope, checked}
use Rattle.spec_language.specs.Declarations.{Declarations}
use Rattle.spec_language.specs.Resolution.{found}
use Rattle.spec_language.specs.ResolutionLaws.{Sound}
use Rattle.spec_language.specs.TagSpans.{spans_of}
use Rattle.spec_uses.specs.Uses.{span_at}
use Rattle.spec_beside.specs.Misses.{OfPlace}

-- it begins in tag number `tag`, and that tag's end is the end that it knows
pub record IsInTag (d : Declarations) (f : Found) : Type 0 where
  pub tag : ℕ
  pub within : tag < length (spans_of d)
  pub from : 8 * (span_at d tag).start ≤ f.at
  pub stop : f.stop ≡ (span_at d tag).end

-- of whatever a text names
abbrev pub FoundInTag : Type 0
FoundInTag = (d : Declarations) (scope : Scope) (text : List ℕ) (f : Found) → found d scope text ≡ Ok f → IsInTag d f

-- the place of a subscript: all its bytes lie in one tag
pub record PlaceInTag (d : Declarations) (p : Place) : Type 0 where
  pub tag : ℕ
  pub within : tag < length (spans_of d)
  pub from : 8 * (span_at d tag).start ≤ p.at
  pub upto : p.at < 8 * (span_at d tag).end
  pub ends : p.at / 8 + bytes_in p.kind ≤ (span_at d tag).end

abbrev pub StepsInTags : Declarations → List Index → Type 0
StepsInTags d steps = Each (λ (i : Index). PlaceInTag d i.of) steps

-- so is each subscript of what a text names
abbrev pub SubscriptsInTags : Type 0
SubscriptsInTags = (d : Declarations) (scope : Scope) (text : List ℕ) (f : Found) → Sound d → found d scope text ≡ Ok f → StepsInTags d f.steps

-- the path begins in one tag, and wherever its subscripts lead, the bytes there lie in this tag; each subscript lies in a tag too
pub record PathInTag (d : Declarations) (p : Path) (stop : ℕ → ℕ) : Type 0 where
  pub tag : ℕ
  pub within : tag < length (spans_of d)
  pub from : 8 * (span_at d tag).start ≤ p.at
  pub begins : (to : ℕ) → CanReach p.steps p.at to → to < 8 * (span_at d tag).end
  pub ends : (to : ℕ) → CanReach p.steps p.at to → stop (to / 8) ≤ (span_at d tag).end
  pub subscripts : StepsInTags d p.steps

-- an operand that is a place lies in one tag, and so does each of an instruction's
abbrev pub OperandInTag : Declarations → Operand → Type 0
OperandInTag d o = OfPlace (PathInTag d) o

abbrev pub InsInTags : Declarations → Ins → Type 0
InsInTags d i = Each (OperandInTag d) i.args

-- so it is of all checked rungs
abbrev pub CheckedInTags : Type 0
CheckedInTags =
    (scope : CheckScope) (rungs : List Source) (made : List (Tree Ins)) → Sound scope.tags → checked scope rungs ≡ Ok made
    → Each (λ t. Each (InsInTags scope.tags) (instructions t)) made
