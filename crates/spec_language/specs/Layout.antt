-- Layout of types (profile): sizes and alignments in bytes, and the members of a type by their first bit.
use Rattle.std.specs.Prelude.{ℕ, zero, suc, ◌+◌, ◌-◌, ◌*◌, ◌/◌, List, [], ◌∷◌, map, length, replicate, slice_get, slice_index, position, find as first_with, Option, option_map, unwrap_or, codes}
use Rattle.std.specs.Option.{option_or}
use Rattle.spec_base.specs.declared.limits.TheConstants.{TIMER_BYTES, COUNTER_BYTES}
use Rattle.lgx_num.specs.Name.{same}
use Rattle.spec_language.specs.declared.types.Base.{Base}
use Rattle.spec_language.specs.declared.types.Base.TheVariants.{Bool as OneBit, Sint, Int, Dint, Timer, Counter, User}
use Rattle.spec_language.specs.declared.types.DataType.{DataType}
use Rattle.spec_language.specs.declared.types.TypeDecl.{TypeDecl}
use Rattle.spec_language.specs.declared.types.MemberDecl.{MemberDecl}
use Rattle.spec_language.specs.declared.types.Member.{Member}

-- ---- names of types

-- the built-in types
abbrev pub built_ins : List (List ℕ × Base)
built_ins = (codes "BOOL", OneBit) ∷ (codes "SINT", Sint) ∷ (codes "INT", Int) ∷ (codes "DINT", Dint) ∷ (codes "TIMER", Timer) ∷ (codes "COUNTER", Counter) ∷ []

-- what a name stands for in a table of names, where case doesn't matter
abbrev pub looked_up : {A : Type 0} → List ℕ → List (List ℕ × A) → Option A
looked_up name table = option_map (λ e. e.1) (first_with (λ e. same e.0 name) table)

-- the type of a name: a built-in one, in any case, or the first structure declared with it
abbrev pub find : List TypeDecl → List ℕ → Option Base
find decls name = option_or (looked_up name built_ins) (option_map User (position (λ d. same d.name name) decls))

-- the type of a member; BOOL stands for a type that isn't there
abbrev pub type_of : List TypeDecl → MemberDecl → DataType
type_of decls m = record { base = unwrap_or (find decls m.of) OneBit; dim = m.dim }

-- a type that is no array
abbrev pub single : Base → DataType
single base = record { base = base; dim = 0 }

-- ---- sizes

-- the least multiple of the step that isn't below the number
abbrev pub round_up : ℕ → ℕ → ℕ
round_up step n = (n + (step - 1)) / step * step

-- an array is aligned as its elements are, but one of BOOLs to 4
abbrev pub alignment_of : Base → ℕ → ℕ
alignment_of OneBit zero = 1
alignment_of OneBit (suc dim) = 4
alignment_of Sint dim = 1
alignment_of Int dim = 2
alignment_of Dint dim = 4
alignment_of Timer dim = 4
alignment_of Counter dim = 4
alignment_of (User i) dim = 4

abbrev pub alignment : DataType → ℕ
alignment t = alignment_of t.base t.dim

-- the size of an element, where a list has those of the structures
abbrev pub element_in : List ℕ → Base → ℕ
element_in sizes OneBit = 1
element_in sizes Sint = 1
element_in sizes Int = 2
element_in sizes Dint = 4
element_in sizes Timer = TIMER_BYTES
element_in sizes Counter = COUNTER_BYTES
element_in sizes (User i) = slice_index sizes i

-- an element alone; of an array of BOOLs a bit for each, and of every other array its elements in order
abbrev pub sized_in : List ℕ → Base → ℕ → ℕ
sized_in sizes base zero = element_in sizes base
sized_in sizes OneBit (suc n) = suc n / 8
sized_in sizes base (suc n) = suc n * element_in sizes base

abbrev pub size_in : List ℕ → DataType → ℕ
size_in sizes t = sized_in sizes t.base t.dim

-- where a member or tag of a type begins, if what comes before it ends at this byte
abbrev pub begin_after : ℕ → DataType → ℕ
begin_after at t = round_up (alignment t) at

-- the members in order, each at the next multiple of its alignment: their names, their types, and their first bits
abbrev pub placed_from : List TypeDecl → List ℕ → ℕ → List MemberDecl → List (List ℕ × Member)
placed_from decls sizes at [] = []
placed_from decls sizes at (m ∷ ms) =
    (m.name, record { of = type_of decls m; at = 8 * begin_after at (type_of decls m) }) ∷ placed_from decls sizes (begin_after at (type_of decls m) + size_in sizes (type_of decls m)) ms

-- the byte after the last of them
abbrev pub end_from : List TypeDecl → List ℕ → ℕ → List MemberDecl → ℕ
end_from decls sizes at [] = at
end_from decls sizes at (m ∷ ms) = end_from decls sizes (begin_after at (type_of decls m) + size_in sizes (type_of decls m)) ms

-- a structure is as long as its members, rounded up to 4
abbrev pub structure_in : List TypeDecl → List ℕ → TypeDecl → ℕ
structure_in decls sizes d = round_up 4 (end_from decls sizes 0 d.members)

-- the sizes of the structures that hold structures at most so deep
abbrev pub sizes_to : ℕ → List TypeDecl → List ℕ
sizes_to zero decls = replicate (length decls) 0
sizes_to (suc depth) decls = map (structure_in decls (sizes_to depth decls)) decls

-- if no structure reaches itself, none holds others deeper than there are structures
abbrev pub sizes : List TypeDecl → List ℕ
sizes decls = sizes_to (length decls) decls

-- the size of a type, in bytes
abbrev pub size_of : List TypeDecl → DataType → ℕ
size_of decls t = size_in (sizes decls) t

-- ---- members

-- the members of a TIMER and of a COUNTER: bits 31 down of the status word, and the two words after it
abbrev pub bit_at : ℕ → Member
bit_at n = record { of = record { base = OneBit; dim = 0 }; at = n }

abbrev pub word_at : ℕ → Member
word_at byte = record { of = record { base = Dint; dim = 0 }; at = 8 * byte }

abbrev pub timer_members : List (List ℕ × Member)
timer_members = (codes "EN", bit_at 31) ∷ (codes "TT", bit_at 30) ∷ (codes "DN", bit_at 29) ∷ (codes "PRE", word_at 4) ∷ (codes "ACC", word_at 8) ∷ []

abbrev pub counter_members : List (List ℕ × Member)
counter_members = (codes "CU", bit_at 31) ∷ (codes "CD", bit_at 30) ∷ (codes "DN", bit_at 29) ∷ (codes "OV", bit_at 28) ∷ (codes "UN", bit_at 27) ∷ (codes "PRE", word_at 4) ∷ (codes "ACC", word_at 8) ∷ []

-- the members of structure i
abbrev pub members_of : List TypeDecl → ℕ → List MemberDecl
members_of decls i = unwrap_or (option_map (λ d. d.members) (slice_get decls i)) []

abbrev pub members : List TypeDecl → Base → List (List ℕ × Member)
members decls OneBit = []
members decls Sint = []
members decls Int = []
members decls Dint = []
members decls Timer = timer_members
members decls Counter = counter_members
members decls (User i) = placed_from decls (sizes decls) 0 (members_of decls i)

-- the member of a name, in any case
abbrev pub member : List TypeDecl → Base → List ℕ → Option Member
member decls base name = looked_up name (members decls base)
