-- Tags and aliases as they are declared, where each tag begins in the image, and what may not be declared.
use Rattle.std.specs.Prelude.{ℕ, ◌+◌, Bool, true, false, not, ◌&&◌, ◌==◌, nat_lt, List, [], ◌∷◌, ◌++◌, filter, flat_map, find, Option}
use Rattle.std.specs.List.{list_any, range_with_len}
use Rattle.spec_base.specs.declared.limits.TheConstants.{MAX_IMAGE_BYTES}
use Rattle.lgx_num.specs.Name.{same, is_name}
use Rattle.spec_base.specs.FirstCause.{where_true, first}
use Rattle.spec_language.specs.Layout.{round_up, size_of}
use Rattle.spec_language.specs.OperandForm.{is_tag_name}
use Rattle.spec_language.specs.declared.types.DataType.{DataType}
use Rattle.spec_language.specs.declared.types.TypeDecl.{TypeDecl}
use Rattle.spec_language.specs.declared.tag.Scope.{Scope}
use Rattle.spec_language.specs.declared.tag.Scope.TheVariants.{Controller, Program}
use Rattle.spec_language.specs.declared.tag.TagCode.{TagCode}
use Rattle.spec_language.specs.declared.tag.TagCode.TheVariants.{G1, G2, G8}

-- what a name is declared as: a tag of a type, or another name for what its target text names
pub data Meaning : Type 0 where
  tag : DataType → Meaning
  alias : List ℕ → Meaning

pub record Entry : Type 0 where
  pub scope : Scope
  pub name : List ℕ
  pub meaning : Meaning

-- the structures, the number of programs, and the tags and aliases in order of declaration
pub record Declarations : Type 0 where
  pub types : List TypeDecl
  pub programs : ℕ
  pub entries : List Entry

-- ---- scopes

abbrev pub same_scope : Scope → Scope → Bool
same_scope Controller Controller = true
same_scope Controller (Program q) = false
same_scope (Program p) Controller = false
same_scope (Program p) (Program q) = p == q

abbrev pub is_named : Scope → List ℕ → Entry → Bool
is_named scope name e = same_scope e.scope scope && same e.name name

abbrev pub in_scope : List Entry → Scope → List Entry
in_scope entries scope = filter (λ e. same_scope e.scope scope) entries

-- ---- where tags begin

-- the controller's entries first, in order of declaration, then each program's, in order of programs
abbrev pub in_order : Declarations → List Entry
in_order d = in_scope d.entries Controller ++ flat_map (λ p. in_scope d.entries (Program p)) (range_with_len 0 d.programs)

-- the bytes of an entry; an alias takes none
abbrev pub size_for : List TypeDecl → Meaning → ℕ
size_for types (tag of) = size_of types of
size_for types (alias target) = 0

abbrev pub entry_size : List TypeDecl → Entry → ℕ
entry_size types e = size_for types e.meaning

-- (profile) every tag begins at the next multiple of 4: each entry with the byte at which it begins
abbrev pub laid_from : List TypeDecl → ℕ → List Entry → List (ℕ × Entry)
laid_from types at [] = []
laid_from types at (e ∷ es) = (at, e) ∷ laid_from types (round_up 4 (at + entry_size types e)) es

abbrev pub laid : Declarations → List (ℕ × Entry)
laid d = laid_from d.types 0 (in_order d)

-- the end of the last of them, rounded up to 4
abbrev pub end_of : List TypeDecl → ℕ → List Entry → ℕ
end_of types at [] = at
end_of types at (e ∷ es) = end_of types (round_up 4 (at + entry_size types e)) es

-- the length of the image, in bytes
abbrev pub bytes : Declarations → ℕ
bytes d = end_of d.types 0 (in_order d)

-- the entry of a name in a scope, in any case, with the byte at which it begins
abbrev pub entry_of : Declarations → Scope → List ℕ → Option (ℕ × Entry)
entry_of d scope name = find (λ e. is_named scope name e.1) (laid d)

-- ---- declaring

-- a controller's tag may have a name of several parts, a program's has one part
abbrev pub is_name_in : Scope → List ℕ → Bool
is_name_in Controller name = is_tag_name name
is_name_in (Program p) name = is_name name

abbrev pub declared_as : Declarations → Scope → List ℕ → Meaning → Declarations
declared_as d scope name meaning = record d { entries = d.entries ++ record { scope = scope; name = name; meaning = meaning } ∷ [] }

-- the first fault of an entry: G1 it is no name of its scope, G2 its scope has it already, G8 the image is longer than
-- the limit with it
abbrev pub entry_faults : Declarations → Scope → List ℕ → List TagCode
entry_faults d scope name = where_true (not (is_name_in scope name)) G1 ++ where_true (list_any (is_named scope name) d.entries) G2

abbrev pub declare_fault : Declarations → Scope → List ℕ → DataType → Option TagCode
declare_fault d scope name of = first (entry_faults d scope name ++ where_true (nat_lt MAX_IMAGE_BYTES (bytes (declared_as d scope name (tag of)))) G8)

abbrev pub alias_fault : Declarations → Scope → List ℕ → Option TagCode
alias_fault d scope name = first (entry_faults d scope name)
