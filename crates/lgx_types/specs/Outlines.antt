-- Declarations with each member's type found.
use Rattle.std.specs.Prelude.{◌^◌, ◌≡◌, ℕ, ◌<◌, ◌%◌, Bool, true, false, not, ◌&&◌, ◌==◌, List, [], ◌++◌, map, length, flat_map, Option, Some, None, is_none, if◌then◌else◌}
use Rattle.std.specs.List.{AllByRecursion as Each, enumerate_from}
use Rattle.spec_language.specs.declared.types.Base.{Base}
use Rattle.spec_language.specs.declared.types.DataType.{DataType}
use Rattle.spec_language.specs.declared.types.TypeDecl.{TypeDecl}
use Rattle.spec_language.specs.declared.types.MemberDecl.{MemberDecl}
use Rattle.spec_language.specs.declared.types.TypeCode.{TypeCode}
use Rattle.spec_language.specs.declared.types.TypeCode.TheVariants.{Y1, Y2, Y4}
use Rattle.spec_language.specs.declared.types.TypeFault.{TypeFault}
use Rattle.spec_base.specs.FirstCause.{where_true}
use Rattle.spec_language.specs.Layout.{find, type_of}
use Rattle.spec_language.specs.TypeFaults.{of_member, is_bool_base, member_faults, structure_faults, is_uneven}
use Rattle.lgx_types.specs.Tables.{HasMembers}

abbrev pub names_of : List TypeDecl → List (List ℕ)
names_of types = map (λ d. d.name) types

abbrev pub member_names : List MemberDecl → List (List ℕ)
member_names ms = map (λ m. m.name) ms

-- the types of a structure's members
abbrev pub outline : List TypeDecl → List MemberDecl → List DataType
outline types ms = map (type_of types) ms

abbrev pub outlines_of : List TypeDecl → List (List DataType)
outlines_of types = map (λ d. outline types d.members) types

-- the faults of member k of structure i, by whether an earlier one has its name
abbrev pub faults_by : Bool → List TypeDecl → ℕ → ℕ → MemberDecl → List TypeFault
faults_by taken types i k m = where_true taken (of_member Y2 i k) ++ (where_true (is_none (find types m.of)) (of_member Y1 i k) ++ where_true (is_uneven types m) (of_member Y4 i k))

-- the code of the first of them, by the type that the member's name stands for
abbrev pub first_wrong : Bool → Option Base → ℕ → Option TypeCode
first_wrong true of dim = Some Y2
first_wrong false None dim = Some Y1
first_wrong false (Some base) dim = if is_bool_base (Some base) && not (dim % 32 == 0) then Some Y4 else None

abbrev pub faults_in : List TypeDecl → ℕ → List MemberDecl → List TypeFault
faults_in types i ms = flat_map (member_faults types i ms) (enumerate_from 0 ms)

-- the faults of names and members
abbrev pub name_faults : List TypeDecl → List TypeFault
name_faults types = flat_map (structure_faults types) (enumerate_from 0 types)

-- declarations whose names and members are in order, with the names of each one's members, and their types
pub record IsResolved (types : List TypeDecl) (members : List (List (List ℕ))) (outlines : List (List DataType)) : Type 0 where
  pub few : length types < 2 ^ 32
  pub full : Each HasMembers types
  pub named : members ≡ map (λ d. member_names d.members) types
  pub typed : outlines ≡ outlines_of types
  pub in_order : name_faults types ≡ []
