-- What an operand's text names, read from left to right.
use Rattle.std.specs.Prelude.{◌≡◌, ℕ, ◌<◌, Bool, true, false, List, [], ◌∷◌, Result, Ok, Err, if◌then◌else◌, ⊤}
use Rattle.std.specs.List.{AllByRecursion as Each}
use Rattle.lgx_num.specs.Name.{is_name}
use Rattle.spec_language.specs.declared.types.TypeDecl.{TypeDecl}
use Rattle.spec_language.specs.declared.tag.TagCode.{TagCode}
use Rattle.spec_language.specs.declared.tag.TagCode.TheVariants.{G5, G6, G10}
use Rattle.spec_language.specs.declared.tag.Found.{Found}
use Rattle.spec_base.specs.FirstCause.{◌>>=◌, unless}
use Rattle.spec_language.specs.OperandForm.{are_digits, digits_number, Token}
use Rattle.spec_language.specs.Resolution.{is_array, find_member, find_element, find_bit, find_indexed}
use Rattle.spec_language.specs.Resolution as meaning
use Rattle.spec_language.specs.ResolutionLaws.{LiesIn}
use Rattle.spec_language.specs.Layout.{single}
use Rattle.lgx_types.specs.Tables.{HasSize}
use Rattle.lgx_tags.specs.Parts.{OperandPart, dotted, element, opened, closed, over_parts}
use Rattle.lgx_tags.specs.declared.error.TagError.{TagError}
use Rattle.lgx_tags.specs.declared.error.TagError.TheVariants.{Tag, Memory}
use Rattle.lgx_tags.specs.declared.resolve.Subscripts.{Subscripts}
use Rattle.lgx_tags.specs.declared.resolve.Subscripts.TheVariants.{Operands, NumbersAlone}

abbrev pub subscripts_of : Subscripts → meaning.Subscripts
subscripts_of Operands = meaning.operands
subscripts_of NumbersAlone = meaning.numbers_alone

-- the answer is what is meant, or there was no memory
abbrev pub AnswersTag : {A : Type 0} → Result A TagCode → Result A TagError → Type 0
AnswersTag meant (Ok x) = meant ≡ Ok x
AnswersTag meant (Err (Tag code)) = meant ≡ Err code
AnswersTag meant (Err Memory) = ⊤

-- what names stand for lies in the image, and no subscript moves it
abbrev pub NamesInBounds : List TypeDecl → ℕ → (List ℕ → Result Found TagCode) → Type 0
NamesInBounds types bytes named = (name : List ℕ) (f : Found) → named name ≡ Ok f → LiesIn types bytes f × (f.steps ≡ [])

-- ---- a text that is read from left to right

-- a word after a dot: a member's name, or the number of a bit
abbrev pub find_dotted : List TypeDecl → Found → List ℕ → Result Found TagCode
find_dotted types f w = if is_name w then find_member types f w else if are_digits 10 w then find_bit f (digits_number 10 w) else Err G10

-- what is found as far as the text is read, and the arrays whose brackets are open, the innermost first
pub record Reading : Type 0 where
  pub arrays : List Found
  pub found : Found

-- a dot and a word, and digits in brackets
abbrev pub dotted_at : List TypeDecl → List ℕ → Reading → Result Reading TagCode
dotted_at types w k = find_dotted types k.found w >>= λ f. Ok (record k { found = f })

abbrev pub element_at : List TypeDecl → List ℕ → Reading → Result Reading TagCode
element_at types w k = find_element types k.found (digits_number 10 w) >>= λ f. Ok (record k { found = f })

-- where numbers alone are subscripts an operand in brackets is G6, whatever it is
abbrev pub may_open : meaning.Subscripts → Bool
may_open meaning.operands = true
may_open meaning.numbers_alone = false

-- a bracket at what is no array is met before what is in it
abbrev pub open_at : meaning.Subscripts → (List ℕ → Result Found TagCode) → List ℕ → Reading → Result Reading TagCode
open_at s named name k = do
  _ ← unless (is_array k.found.of) G5
  _ ← unless (may_open s) G6
  f ← named name
  Ok (record { arrays = k.found ∷ k.arrays; found = f })

abbrev pub close_at : List TypeDecl → List Found → Found → Result Reading TagCode
close_at types [] f = Err G10
close_at types (a ∷ arrays) f = find_indexed types a (Ok f) >>= λ g. Ok (record { arrays = arrays; found = g })

-- one more part
abbrev pub step : meaning.Subscripts → List TypeDecl → (List ℕ → Result Found TagCode) → OperandPart → Reading → Result Reading TagCode
step s types named (dotted w) k = dotted_at types w k
step s types named (element w) k = element_at types w k
step s types named (opened w) k = open_at s named w k
step s types named closed k = close_at types k.arrays k.found

-- at the end of the text no bracket is open
abbrev pub end_at : List Found → Found → Result Found TagCode
end_at [] f = Ok f
end_at (a ∷ arrays) f = Err G10

abbrev pub end_after : List ℕ → Reading → Result Found TagCode
end_after [] k = end_at k.arrays k.found
end_after (c ∷ cs) k = Err G10

abbrev pub reading_step : meaning.Subscripts → List TypeDecl → (List ℕ → Result Found TagCode) → OperandPart → (Reading → Result Found TagCode) → Reading → Result Found TagCode
reading_step s types named p next k = step s types named p k >>= next

-- what is found where the text goes on with these tokens
abbrev pub found_after : meaning.Subscripts → List TypeDecl → (List ℕ → Result Found TagCode) → List Token → Reading → Result Found TagCode
found_after s types named ts k = over_parts (reading_step s types named) (λ k. end_at k.arrays k.found) (λ k. Err G10) ts k

-- ---- what is read lies in the image

-- it lies in the image, and each array that a subscript goes over has an element
pub record IsInImage (types : List TypeDecl) (bytes : ℕ) (f : Found) : Type 0 where
  pub lies : LiesIn types bytes f
  pub some : Each (λ i. 0 < i.length) f.steps

abbrev pub AreSized : List TypeDecl → List Found → Type 0
AreSized types arrays = Each (λ a. HasSize types (single a.of.base)) arrays

-- an array whose bracket is open
pub record IsOpen (types : List TypeDecl) (bytes : ℕ) (f : Found) : Type 0 where
  pub placed : IsInImage types bytes f
  pub array : is_array f.of ≡ true

pub record AllInImage (types : List TypeDecl) (bytes : ℕ) (k : Reading) : Type 0 where
  pub arrays : Each (IsOpen types bytes) k.arrays
  pub found : IsInImage types bytes k.found
