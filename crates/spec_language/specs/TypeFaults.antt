-- What is wrong with a list of declared structures.
use Rattle.std.specs.Prelude.{ℕ, zero, suc, ◌%◌, Bool, true, false, not, ◌&&◌, ◌||◌, ◌==◌, nat_lt, List, [], ◌∷◌, ◌++◌, length, take, filter, flat_map, slice_index, Option, Some, None, is_some, is_none}
use Rattle.std.specs.List.{list_any, enumerate_from, range_with_len}
use Rattle.spec_base.specs.declared.limits.TheConstants.{MAX_STRUCTURE_BYTES}
use Rattle.lgx_num.specs.Name.{same}
use Rattle.spec_base.specs.FirstCause.{where_true, first}
use Rattle.spec_language.specs.Layout.{built_ins, looked_up, find, members_of, sizes}
use Rattle.spec_language.specs.declared.types.Base.{Base}
use Rattle.spec_language.specs.declared.types.Base.TheVariants.{Bool as OneBit, User}
use Rattle.spec_language.specs.declared.types.TypeDecl.{TypeDecl}
use Rattle.spec_language.specs.declared.types.MemberDecl.{MemberDecl}
use Rattle.spec_language.specs.declared.types.TypeCode.{TypeCode}
use Rattle.spec_language.specs.declared.types.TypeCode.TheVariants.{Y1, Y2, Y3, Y4, Y5, Y6}
use Rattle.spec_language.specs.declared.types.TypeFault.{TypeFault}

abbrev pub of_structure : TypeCode → ℕ → TypeFault
of_structure code i = record { code = code; decl = i; member = None }

abbrev pub of_member : TypeCode → ℕ → ℕ → TypeFault
of_member code i k = record { code = code; decl = i; member = Some k }

-- ---- names and members, in order of declaration

-- Y6: the structure's name is built in, or that of an earlier structure
abbrev pub name_taken : List TypeDecl → ℕ → TypeDecl → Bool
name_taken decls i d = is_some (looked_up d.name built_ins) || list_any (λ o. same o.name d.name) (take i decls)

-- Y2: an earlier member of the structure has the member's name
abbrev pub repeated : List MemberDecl → ℕ → MemberDecl → Bool
repeated ms k m = list_any (λ o. same o.name m.name) (take k ms)

abbrev pub is_bool_base : Option Base → Bool
is_bool_base None = false
is_bool_base (Some OneBit) = true
is_bool_base (Some _) = false

-- Y4: an array of BOOLs whose length isn't a multiple of 32
abbrev pub is_uneven : List TypeDecl → MemberDecl → Bool
is_uneven decls m = is_bool_base (find decls m.of) && not (m.dim % 32 == 0)

-- the faults of member k of structure i: Y2, Y1 its type isn't there, Y4
abbrev pub member_faults : List TypeDecl → ℕ → List MemberDecl → ℕ × MemberDecl → List TypeFault
member_faults decls i ms e = where_true (repeated ms e.0 e.1) (of_member Y2 i e.0) ++ (where_true (is_none (find decls e.1.of)) (of_member Y1 i e.0) ++ where_true (is_uneven decls e.1) (of_member Y4 i e.0))

abbrev pub structure_faults : List TypeDecl → ℕ × TypeDecl → List TypeFault
structure_faults decls e = where_true (name_taken decls e.0 e.1) (of_structure Y6 e.0) ++ flat_map (member_faults decls e.0 e.1.members) (enumerate_from 0 e.1.members)

-- ---- structures inside structures

abbrev pub user_number : Option Base → List ℕ
user_number (Some (User i)) = i ∷ []
user_number (Some _) = []
user_number None = []

-- the structures that members of structure i are of
abbrev pub parts : List TypeDecl → ℕ → List ℕ
parts decls i = flat_map (λ m. user_number (find decls m.of)) (members_of decls i)

abbrev pub among : List ℕ → ℕ → Bool
among set i = list_any (λ j. j == i) set

-- the structures in the set, and those that members of these are of
abbrev pub with_parts : List TypeDecl → List ℕ → List ℕ
with_parts decls set = filter (λ i. among set i || list_any (λ j. among (parts decls j) i) set) (range_with_len 0 (length decls))

-- the structures that structure i reaches through members of members, at most so deep
abbrev pub reached_to : ℕ → List TypeDecl → ℕ → List ℕ
reached_to zero decls i = parts decls i
reached_to (suc depth) decls i = with_parts decls (reached_to depth decls i)

-- a structure that is reached at all is reached through no more structures than there are
abbrev pub reaches_itself : List TypeDecl → ℕ → Bool
reaches_itself decls i = among (reached_to (length decls) decls i) i

-- ---- the first fault

-- those of names and members, by structures; then Y3 structures that reach themselves; then Y5 those that are too long
abbrev pub type_faults : List TypeDecl → List TypeFault
type_faults decls = flat_map (structure_faults decls) (enumerate_from 0 decls)
    ++ (flat_map (λ i. where_true (reaches_itself decls i) (of_structure Y3 i)) (range_with_len 0 (length decls))
    ++ flat_map (λ i. where_true (nat_lt MAX_STRUCTURE_BYTES (slice_index (sizes decls) i)) (of_structure Y5 i)) (range_with_len 0 (length decls)))

abbrev pub type_fault : List TypeDecl → Option TypeFault
type_fault decls = first (type_faults decls)
