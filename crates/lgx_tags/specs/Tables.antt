-- A table of tags: what it holds, what is asked of it, and what it answers.
use Rattle.std.specs.Prelude.{◌^◌, ◌≡◌, ℕ, ◌<◌, ◌≤◌, Bool, true, List, map, length, ⊤}
use Rattle.std.specs.List.{AllByRecursion as Each, list_any}
use Rattle.spec_base.specs.declared.limits.TheConstants.{MAX_IMAGE_BYTES, MAX_TAG_NAME_BYTES}
use Rattle.spec_language.specs.declared.types.TypeDecl.{TypeDecl}
use Rattle.spec_language.specs.Declarations.{Meaning, tag, alias, Entry, Declarations, bytes}
use Rattle.spec_language.specs.OperandForm.{is_tag_name}
use Rattle.spec_language.specs.Resolution.{aliases}
use Rattle.lgx_types.specs.Tables.{HasSize}
use Rattle.lgx_tags.specs.Firsts.{AreFirst}
use Rattle.lgx_tags.specs.Keys.{key_of}
use Rattle.lgx_tags.specs.Scopes.{IsScopeOf, is_own}
use Rattle.lgx_tags.specs.declared.key.Key.{Key}

-- the declarations, and whether they are sealed: only then names are resolved
pub record Table : Type 0 where
  pub declarations : Declarations
  pub sealed : Bool

-- ---- what is kept of declarations

abbrev pub IsSized : List TypeDecl → Meaning → Type 0
IsSized types (tag of) = HasSize types of
IsSized types (alias target) = ⊤

-- an entry that was let in
pub record IsAdmitted (types : List TypeDecl) (programs : ℕ) (e : Entry) : Type 0 where
  pub named : is_tag_name e.name ≡ true
  pub short : length e.name ≤ MAX_TAG_NAME_BYTES
  pub placed : IsScopeOf programs e.scope
  pub sized : IsSized types e.meaning

abbrev pub keys_of : List Entry → List Key
keys_of entries = map (λ e. key_of e.scope e.name) entries

-- a program has an entry of its own
abbrev pub has_own : List Entry → Bool
has_own entries = list_any (λ e. is_own e.scope) entries

-- the entries' keys are kept beside them, in the same order, their bytes are counted, it is known whether any is a program's,
-- and each has its name alone
pub record RepresentsDeclarations (d : Declarations) (keys : List Key) (count : ℕ) (any_own : Bool) : Type 0 where
  pub admitted : Each (IsAdmitted d.types d.programs) d.entries
  pub keyed : keys ≡ keys_of d.entries
  pub counted : count ≡ bytes d
  pub room : count ≤ MAX_IMAGE_BYTES
  pub few : length (aliases d) < 2 ^ 32
  pub owned : any_own ≡ has_own d.entries
  pub firsts : AreFirst d.entries
