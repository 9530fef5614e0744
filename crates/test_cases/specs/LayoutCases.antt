-- Cases of layout: structures inside structures, arrays, and each fault of declared structures.
use Rattle.std.specs.Prelude.{◌≡◌, ℕ, ◌+◌, ◌*◌, List, [], ◌∷◌, map, codes, Option, Some, None}
use Rattle.spec_base.specs.declared.limits.TheConstants.{MAX_ELEMENTS, MAX_IMAGE_BYTES}
use Rattle.spec_language.specs.declared.types.Base.{Base}
use Rattle.spec_language.specs.declared.types.Base.TheVariants.{Bool as OneBit, Sint, Int, Dint, Timer, Counter, User}
use Rattle.spec_language.specs.declared.types.DataType.{DataType}
use Rattle.spec_language.specs.declared.types.TypeDecl.{TypeDecl}
use Rattle.spec_language.specs.declared.types.MemberDecl.{MemberDecl}
use Rattle.spec_language.specs.declared.types.Member.{Member}
use Rattle.spec_language.specs.declared.types.TypeCode.TheVariants.{Y1, Y2, Y3, Y4, Y5, Y6}
use Rattle.spec_language.specs.Layout.{size_of, member, single}
use Rattle.spec_language.specs.TypeFaults.{of_structure, of_member, type_fault}
use Rattle.test_cases.specs.ConveyorTags.{of_type}

-- ---- words for samples

abbrev pub array_of : List ℕ → List ℕ → ℕ → MemberDecl
array_of name of n = record { name = name; of = of; dim = n }

abbrev pub structure : List ℕ → List MemberDecl → TypeDecl
structure name members = record { name = name; members = members }

abbrev pub many : Base → ℕ → DataType
many base n = record { base = base; dim = n }

-- ---- structures with all kinds of members

-- a Cell holds Marks, which are declared after it: f at byte 0, t at 4, c at 20, inner at 44, x at 68, in all 72; of Marks
-- a is at byte 0, b at 1, c at 2, d at 4, e at 8, in all 9 and so 12
abbrev pub cells : List TypeDecl
cells = structure (codes "Cell") (of_type (codes "f") (codes "SINT") ∷ of_type (codes "t") (codes "TIMER") ∷ array_of (codes "c") (codes "COUNTER") 2 ∷ array_of (codes "inner") (codes "Marks") 2 ∷ of_type (codes "x") (codes "DINT") ∷ [])
    ∷ structure (codes "Marks") (of_type (codes "a") (codes "BOOL") ∷ of_type (codes "b") (codes "SINT") ∷ of_type (codes "c") (codes "INT") ∷ array_of (codes "d") (codes "BOOL") 32 ∷ of_type (codes "e") (codes "BOOL") ∷ [])
    ∷ []

abbrev pub CellSizes : Type 0
CellSizes = map (size_of cells) (single (User 0) ∷ single (User 1) ∷ many (User 0) 3 ∷ many OneBit 64 ∷ many Sint 5 ∷ many Int 3 ∷ many Timer 2 ∷ many Dint MAX_ELEMENTS ∷ [])
    ≡ 72 ∷ 12 ∷ 216 ∷ 8 ∷ 5 ∷ 6 ∷ 32 ∷ MAX_IMAGE_BYTES ∷ []

abbrev pub member_at : DataType → ℕ → ℕ → Option Member
member_at of byte bit = Some (record { of = of; at = 8 * byte + bit })

abbrev pub CellMembers : Type 0
CellMembers = map (member cells (User 0)) (codes "f" ∷ codes "T" ∷ codes "c" ∷ codes "inner" ∷ codes "x" ∷ codes "y" ∷ [])
    ≡ member_at (single Sint) 0 0 ∷ member_at (single Timer) 4 0 ∷ member_at (many Counter 2) 20 0 ∷ member_at (many (User 1) 2) 44 0 ∷ member_at (single Dint) 68 0 ∷ None ∷ []

abbrev pub MarkMembers : Type 0
MarkMembers = map (member cells (User 1)) (codes "a" ∷ codes "b" ∷ codes "c" ∷ codes "d" ∷ codes "e" ∷ [])
    ≡ member_at (single OneBit) 0 0 ∷ member_at (single Sint) 1 0 ∷ member_at (single Int) 2 0 ∷ member_at (many OneBit 32) 4 0 ∷ member_at (single OneBit) 8 0 ∷ []

abbrev pub TimerMembers : Type 0
TimerMembers = map (member [] Timer) (codes "PRE" ∷ codes "ACC" ∷ codes "EN" ∷ codes "TT" ∷ codes "dn" ∷ codes "CU" ∷ [])
    ≡ member_at (single Dint) 4 0 ∷ member_at (single Dint) 8 0 ∷ member_at (single OneBit) 0 31 ∷ member_at (single OneBit) 0 30 ∷ member_at (single OneBit) 0 29 ∷ None ∷ []

abbrev pub CounterMembers : Type 0
CounterMembers = map (member [] Counter) (codes "PRE" ∷ codes "ACC" ∷ codes "CU" ∷ codes "CD" ∷ codes "DN" ∷ codes "OV" ∷ codes "UN" ∷ codes "EN" ∷ [])
    ≡ member_at (single Dint) 4 0 ∷ member_at (single Dint) 8 0 ∷ member_at (single OneBit) 0 31 ∷ member_at (single OneBit) 0 30 ∷ member_at (single OneBit) 0 29 ∷ member_at (single OneBit) 0 28 ∷ member_at (single OneBit) 0 27 ∷ None ∷ []

-- ---- faults

abbrev pub a_dint : List ℕ → MemberDecl
a_dint name = of_type name (codes "DINT")

-- a structure A with these members
abbrev pub only : List MemberDecl → List TypeDecl
only members = structure (codes "A") members ∷ []

-- Y6 a name that is built in, and one that is repeated; Y2; Y1; Y4
abbrev pub NameFaults : Type 0
NameFaults = map type_fault (
    (structure (codes "Timer") (a_dint (codes "x") ∷ []) ∷ [])
    ∷ (structure (codes "A") (a_dint (codes "x") ∷ []) ∷ structure (codes "a") (a_dint (codes "x") ∷ []) ∷ [])
    ∷ only (a_dint (codes "x") ∷ a_dint (codes "y") ∷ a_dint (codes "X") ∷ [])
    ∷ only (a_dint (codes "x") ∷ of_type (codes "y") (codes "REAL") ∷ [])
    ∷ only (array_of (codes "x") (codes "BOOL") 32 ∷ array_of (codes "y") (codes "bool") 33 ∷ [])
    ∷ cells
    ∷ [])
    ≡ Some (of_structure Y6 0) ∷ Some (of_structure Y6 1) ∷ Some (of_member Y2 0 2) ∷ Some (of_member Y1 0 1) ∷ Some (of_member Y4 0 1) ∷ None ∷ []

-- of one member Y2 before Y1; of two members the first; of two structures the first, whatever the second has
abbrev pub FaultOrder : Type 0
FaultOrder = map type_fault (
    only (a_dint (codes "x") ∷ of_type (codes "x") (codes "REAL") ∷ [])
    ∷ only (of_type (codes "x") (codes "REAL") ∷ a_dint (codes "X") ∷ a_dint (codes "x") ∷ [])
    ∷ (structure (codes "A") (array_of (codes "x") (codes "BOOL") 1 ∷ []) ∷ structure (codes "A") (a_dint (codes "x") ∷ []) ∷ [])
    ∷ (structure (codes "A") (of_type (codes "x") (codes "A") ∷ []) ∷ structure (codes "B") (of_type (codes "x") (codes "REAL") ∷ []) ∷ [])
    ∷ [])
    ≡ Some (of_member Y2 0 1) ∷ Some (of_member Y1 0 0) ∷ Some (of_member Y4 0 0) ∷ Some (of_member Y1 1 0) ∷ []

-- Y3: two of each other's type; one that holds a structure that reaches itself does not reach itself
abbrev pub Rings : Type 0
Rings = map type_fault (
    (structure (codes "A") (of_type (codes "x") (codes "B") ∷ []) ∷ structure (codes "B") (of_type (codes "x") (codes "A") ∷ []) ∷ [])
    ∷ (structure (codes "A") (of_type (codes "x") (codes "B") ∷ []) ∷ structure (codes "B") (a_dint (codes "y") ∷ array_of (codes "x") (codes "B") 2 ∷ []) ∷ [])
    ∷ (structure (codes "A") (of_type (codes "x") (codes "B") ∷ of_type (codes "y") (codes "B") ∷ []) ∷ structure (codes "B") (a_dint (codes "x") ∷ []) ∷ [])
    ∷ [])
    ≡ Some (of_structure Y3 0) ∷ Some (of_structure Y3 1) ∷ None ∷ []

-- Y5: 4,096 bytes are allowed, 4,100 are not, inside another structure neither
abbrev pub Lengths : Type 0
Lengths = map type_fault (
    only (array_of (codes "x") (codes "DINT") 1024 ∷ [])
    ∷ only (array_of (codes "x") (codes "SINT") 4097 ∷ [])
    ∷ (structure (codes "A") (array_of (codes "x") (codes "B") 2 ∷ []) ∷ structure (codes "B") (array_of (codes "x") (codes "DINT") 513 ∷ []) ∷ [])
    ∷ [])
    ≡ None ∷ Some (of_structure Y5 0) ∷ Some (of_structure Y5 0) ∷ []
