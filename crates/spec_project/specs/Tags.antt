-- Types, tags and aliases of a project that are refused, and its declarations.
use Rattle.std.specs.Prelude.{ℕ, ◌%◌, not, ◌&&◌, ◌==◌, nat_lt, Bool, true, false, List, [], ◌++◌, length, map, filter, flat_map, take, slice_get, Option, Some, option_map, option_and_then, unwrap_or, is_none, codes}
use Rattle.std.specs.List.{enumerate_from}
use Rattle.spec_base.specs.declared.limits.TheConstants.{MAX_IMAGE_BYTES}
use Rattle.spec_base.specs.FirstCause.{first, where_true}
use Rattle.spec_language.specs.declared.types.Base.TheVariants.{Bool as OneBit}
use Rattle.spec_language.specs.declared.types.DataType.{DataType}
use Rattle.spec_language.specs.declared.types.TypeDecl.{TypeDecl}
use Rattle.spec_language.specs.declared.types.TypeCode.TheVariants.{Y1, Y4}
use Rattle.spec_language.specs.declared.tag.Scope.{Scope}
use Rattle.spec_language.specs.declared.tag.Scope.TheVariants.{Controller, Program}
use Rattle.spec_language.specs.declared.tag.TagCode.TheVariants.{G8}
use Rattle.spec_language.specs.Layout.{find}
use Rattle.spec_language.specs.TypeFaults.{is_bool_base, type_fault}
use Rattle.spec_language.specs.Declarations.{Meaning, tag, alias, Entry, Declarations, bytes, declared_as, entry_faults}
use Rattle.spec_language.specs.Resolution.{seal_fault}
use Rattle.spec_project.specs.declared.fault.Inner.{Inner}
use Rattle.spec_project.specs.declared.fault.Inner.TheVariants.{OfType, OfTag}
use Rattle.spec_project.specs.declared.fault.ProjectFault.{ProjectFault}
use Rattle.spec_project.specs.declared.fault.ProjectCode.TheVariants.{P9}
use Rattle.spec_project.specs.declared.described.Described.{Described}
use Rattle.spec_project.specs.declared.described.DescribedTag.{DescribedTag}
use Rattle.spec_project.specs.declared.described.DescribedMeaning.{DescribedMeaning}
use Rattle.spec_project.specs.declared.described.DescribedMeaning.TheVariants.{OfType as typed, AliasOf}
use Rattle.spec_project.specs.Faults.{here_for, in_field, at_place, first_of}

-- ---- types

-- P9: the first fault of the structures, at its structure
unfoldable pub types_fault : Described → Option ProjectFault
types_fault p = in_field (codes "types") (option_and_then (λ f. at_place f.decl (Some (here_for P9 (OfType f.code)))) (type_fault p.types))

-- ---- tags with their scopes

-- a tag of a scope, by its number there
pub record ScopedTag : Type 0 where
  pub scope : Scope
  pub number : ℕ
  pub tag : DescribedTag

abbrev pub tags_in : Scope → List DescribedTag → List ScopedTag
tags_in scope tags = map (λ e. record { scope = scope; number = e.0; tag = e.1 }) (enumerate_from 0 tags)

-- the controller's tags, and then those of each program
abbrev pub scoped_tags : Described → List ScopedTag
scoped_tags p = tags_in Controller p.tags ++ flat_map (λ e. tags_in (Program e.0) e.1.tags) (enumerate_from 0 p.programs)

-- a refusal of what is in the list of a scope's tags
abbrev pub in_tags_of : Scope → Option ProjectFault → Option ProjectFault
in_tags_of Controller fault = in_field (codes "tags") fault
in_tags_of (Program n) fault = in_field (codes "programs") (at_place n (in_field (codes "tags") fault))

abbrev pub at_tag : ScopedTag → Option ProjectFault → Option ProjectFault
at_tag t fault = in_tags_of t.scope (at_place t.number fault)

-- ---- declarations

-- BOOL stands for a type that isn't there
abbrev pub data_type : List TypeDecl → List ℕ → ℕ → DataType
data_type types name dim = record { base = unwrap_or (find types name) OneBit; dim = dim }

abbrev pub entry_meaning : List TypeDecl → DescribedMeaning → Meaning
entry_meaning types (typed of dim) = tag (data_type types of dim)
entry_meaning types (AliasOf target) = alias target

abbrev pub entry_of : List TypeDecl → ScopedTag → Entry
entry_of types t = record { scope = t.scope; name = t.tag.name; meaning = entry_meaning types t.tag.meaning }

abbrev pub declarations_of : Described → List ScopedTag → Declarations
declarations_of p tags = record { types = p.types; programs = length p.programs; entries = map (entry_of p.types) tags }

-- ---- what is refused of a tag, by what was declared before it

-- Y1: its type isn't there; Y4: it is an array of BOOLs whose length isn't a multiple of 32; G8: the image is too long with it
abbrev pub type_faults_of : Declarations → Scope → List ℕ → DescribedMeaning → List Inner
type_faults_of d scope name (AliasOf target) = []
type_faults_of d scope name (typed of dim) =
    where_true (is_none (find d.types of)) (OfType Y1)
    ++ (where_true (is_bool_base (find d.types of) && not (dim % 32 == 0)) (OfType Y4)
    ++ where_true (nat_lt MAX_IMAGE_BYTES (bytes (declared_as d scope name (tag (data_type d.types of dim))))) (OfTag G8))

-- G1, G2: its name
abbrev pub inner_of_tag : Declarations → Scope → DescribedTag → Option Inner
inner_of_tag d scope t = first (map OfTag (entry_faults d scope t.name) ++ type_faults_of d scope t.name t.meaning)

abbrev pub tag_fault : Declarations → ScopedTag → Option ProjectFault
tag_fault d t = at_tag t (option_map (here_for P9) (inner_of_tag d t.scope t.tag))

-- P9 of the tags and aliases, in order
unfoldable pub tags_fault : Described → Option ProjectFault
tags_fault p = first_of (λ k t. tag_fault (declarations_of p (take k (scoped_tags p))) t) (scoped_tags p)

-- ---- aliases

abbrev pub is_alias : ScopedTag → Bool
is_alias t = elim t.tag.meaning [ typed of dim ↦ false | AliasOf target ↦ true ]

abbrev pub declarations : Described → Declarations
declarations p = declarations_of p (scoped_tags p)

-- P9: the first alias whose chain has a fault or doesn't end
unfoldable pub aliases_fault : Described → Option ProjectFault
aliases_fault p =
    option_and_then
    (λ f. option_and_then (λ t. at_tag t (Some (here_for P9 (OfTag f.0)))) (slice_get (filter is_alias (scoped_tags p)) f.1))
    (seal_fault (declarations p))
