-- What an operand's text names: where in the image its place begins, as a bit, and the subscripts that move it; of what
-- type it is; where its tag ends. Or, read from the left, the first cause why it names none.
use Rattle.std.specs.Prelude.{ℕ, zero, suc, ◌+◌, ◌*◌, Bool, not, ◌&&◌, ◌==◌, nat_lt, List, [], ◌∷◌, ◌++◌, length, filter_map, Option, Some, None, Result, Ok, Err, option_map}
use Rattle.std.specs.Option.{option_or}
use Rattle.std.specs.Result.{result_err}
use Rattle.spec_base.specs.declared.limits.TheConstants.{MAX_SUBSCRIPTS}
use Rattle.lgx_num.specs.declared.number.Kind.{Kind}
use Rattle.lgx_num.specs.declared.number.Kind.TheVariants.{Bool as KBool, Sint as KSint, Int as KInt, Dint as KDint}
use Rattle.lgx_num.specs.declared.place.Index.{Index}
use Rattle.spec_base.specs.FirstCause.{◌>>=◌, unless, some_or}
use Rattle.spec_language.specs.Layout.{member as member_of, size_of, single}
use Rattle.spec_language.specs.OperandForm.{Form, tag, member, element, indexed, bit, form}
use Rattle.spec_language.specs.Declarations.{Meaning, Entry, Declarations, entry_of}
use Rattle.spec_language.specs.Declarations.{tag as is_tag, alias as is_alias}
use Rattle.spec_language.specs.declared.types.Base.{Base}
use Rattle.spec_language.specs.declared.types.Base.TheVariants.{Bool as OneBit, Sint, Int, Dint, Timer, Counter, User}
use Rattle.spec_language.specs.declared.types.DataType.{DataType}
use Rattle.spec_language.specs.declared.types.TypeDecl.{TypeDecl}
use Rattle.spec_language.specs.declared.tag.Scope.{Scope}
use Rattle.spec_language.specs.declared.tag.Scope.TheVariants.{Controller, Program}
use Rattle.spec_language.specs.declared.tag.TagCode.{TagCode}
use Rattle.spec_language.specs.declared.tag.TagCode.TheVariants.{G3, G4, G5, G6, G7, G9, G10}
use Rattle.spec_language.specs.declared.tag.Found.{Found}

-- ---- types of what is found

abbrev pub is_array : DataType → Bool
is_array t = not (t.dim == 0)

-- the bits of an integer; other types have none that are picked by number
abbrev pub integer_bits : Base → ℕ
integer_bits OneBit = 0
integer_bits Sint = 8
integer_bits Int = 16
integer_bits Dint = 32
integer_bits Timer = 0
integer_bits Counter = 0
integer_bits (User i) = 0

abbrev pub is_integer : DataType → Bool
is_integer t = not (is_array t) && nat_lt 0 (integer_bits t.base)

-- what is at a place of a type: its bit or its number; a place of another type is spoken of by its first DINT
abbrev pub kind_of : Base → Kind
kind_of OneBit = KBool
kind_of Sint = KSint
kind_of Int = KInt
kind_of Dint = KDint
kind_of Timer = KDint
kind_of Counter = KDint
kind_of (User i) = KDint

-- the bits from one element of an array to the next
abbrev pub stride : List TypeDecl → Base → ℕ
stride types OneBit = 1
stride types base = 8 * size_of types (single base)

-- ---- a member, an element and a bit of what was found

-- G4: the member is unknown; a whole array has none
abbrev pub find_member : List TypeDecl → Found → List ℕ → Result Found TagCode
find_member types f name = do
  _ ← unless (not (is_array f.of)) G4
  m ← some_or (member_of types f.of.base name) G4
  Ok (record f { at = f.at + m.at; of = m.of })

-- G5: a subscript is at what is no array, or it is out of range
abbrev pub find_element : List TypeDecl → Found → ℕ → Result Found TagCode
find_element types f n = do
  _ ← unless (is_array f.of) G5
  _ ← unless (nat_lt n f.of.dim) G5
  Ok (record f { at = f.at + n * stride types f.of.base; of = single f.of.base })

-- G5: the bit is of no integer, or its number is out of range
abbrev pub find_bit : Found → ℕ → Result Found TagCode
find_bit f n = do
  _ ← unless (is_integer f.of) G5
  _ ← unless (nat_lt n (integer_bits f.of.base)) G5
  Ok (record f { at = f.at + n; of = single OneBit })

-- a subscript is an integer place without a variable subscript of its own
abbrev pub may_index : Found → Bool
may_index f = is_integer f.of && length f.steps == 0

abbrev pub index_by : List TypeDecl → DataType → Found → Index
index_by types array i = record { of = record { kind = kind_of i.of.base; at = i.at }; stride = stride types array.base; length = array.dim }

-- what a variable subscript makes of an array, by what the subscript's own text names or its cause: its cause comes
-- first, then G6 it may be no subscript, then G9 it is one too many
abbrev pub find_indexed : List TypeDecl → Found → Result Found TagCode → Result Found TagCode
find_indexed types f subscript = do
  i ← subscript
  _ ← unless (may_index i) G6
  _ ← unless (nat_lt (length f.steps) MAX_SUBSCRIPTS) G9
  Ok (record f { steps = f.steps ++ index_by types f.of i ∷ []; of = single f.of.base })

-- ---- what a form names

-- subscripts may be operands, or numbers alone
pub data Subscripts : Type 0 where
  operands : Subscripts
  numbers_alone : Subscripts

-- if numbers alone may be subscripts, an operand in brackets is G6, whatever it is
abbrev pub subscript_by : Subscripts → Result Found TagCode → Result Found TagCode
subscript_by operands found = found
subscript_by numbers_alone found = Err G6

-- what a form names, where tags' names stand for what `named` says; a `[` at what is no array is met before what comes after it
abbrev pub resolved : Subscripts → List TypeDecl → (List ℕ → Result Found TagCode) → Form → Result Found TagCode
resolved s types named (tag name) = named name
resolved s types named (member form name) = resolved s types named form >>= λ f. find_member types f name
resolved s types named (element form n) = resolved s types named form >>= λ f. find_element types f n
resolved s types named (bit form n) = resolved s types named form >>= λ f. find_bit f n
resolved s types named (indexed form inner) =
    resolved s types named form >>= λ f.
    unless (is_array f.of) G5 >>= λ _.
    find_indexed types f (subscript_by s (resolved s types named inner))

-- ---- what a name stands for

-- a program's own tags are looked at before the controller's
abbrev pub seen_from : Declarations → Scope → List ℕ → Option (ℕ × Entry)
seen_from d Controller name = entry_of d Controller name
seen_from d (Program p) name = option_or (entry_of d (Program p) name) (entry_of d Controller name)

abbrev pub tag_found : List TypeDecl → ℕ → DataType → Found
tag_found types at of = record { at = 8 * at; steps = []; of = of; stop = at + size_of types of }

-- a tag stands for itself, an alias for what its target names in the alias's own scope
abbrev pub meant : List TypeDecl → (Scope → List ℕ → Result Found TagCode) → ℕ × Entry → Result Found TagCode
meant types target_found e = go e.1.meaning
  where
    go : Meaning → Result Found TagCode
    go (is_tag of) = Ok (tag_found types e.0 of)
    go (is_alias target) = target_found e.1.scope target

abbrev pub in_form : Subscripts → List TypeDecl → (List ℕ → Result Found TagCode) → List ℕ → Result Found TagCode
in_form s types named text = some_or (form text) G10 >>= resolved s types named

-- what a name stands for if at most the given number of aliases follow one another, and G7 if more do; numbers alone are subscripts
-- in an alias's target
abbrev pub named_within : ℕ → Declarations → Scope → List ℕ → Result Found TagCode
named_within zero d scope name = some_or (seen_from d scope name) G3 >>= meant d.types (λ _ _. Err G7)
named_within (suc chain) d scope name = some_or (seen_from d scope name) G3 >>= meant d.types (λ s target. in_form numbers_alone d.types (named_within chain d s) target)

abbrev pub target_of : Meaning → Option (List ℕ)
target_of (is_tag of) = None
target_of (is_alias target) = Some target

-- the aliases in order of declaration, with their scopes
abbrev pub aliases : Declarations → List (Scope × List ℕ)
aliases d = filter_map (λ e. option_map (λ target. (e.scope, target)) (target_of e.meaning)) d.entries

-- a chain of more aliases than there are comes to one of them twice, and doesn't end
abbrev pub named : Declarations → Scope → List ℕ → Result Found TagCode
named d = named_within (length (aliases d)) d

-- ---- what a text names

abbrev pub found : Declarations → Scope → List ℕ → Result Found TagCode
found d scope text = in_form operands d.types (named d scope) text

-- the same if numbers alone may be subscripts
abbrev pub found_fixed : Declarations → Scope → List ℕ → Result Found TagCode
found_fixed d scope text = in_form numbers_alone d.types (named d scope) text

-- the first alias, by its number among the aliases, whose chain has a fault or doesn't end
abbrev pub first_bad : Declarations → ℕ → List (Scope × List ℕ) → Option (TagCode × ℕ)
first_bad d k [] = None
first_bad d k (a ∷ more) = option_or (option_map (λ code. (code, k)) (result_err (found_fixed d a.0 a.1))) (first_bad d (suc k) more)

abbrev pub seal_fault : Declarations → Option (TagCode × ℕ)
seal_fault d = first_bad d 0 (aliases d)
