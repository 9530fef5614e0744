-- What one more entry changes.
use Rattle.std.specs.Prelude.{◌≡◌, ℕ, ◌+◌, ◌<◌, ◌≤◌, Bool, true, false, ◌||◌, nat_le, if◌then◌else◌, List, [], ◌∷◌, ◌++◌, length, position, Some, None, is_some, option_map, refl}
use Rattle.std.specs.List.{AllByRecursion as Each, list_any, filter_map}
use Rattle.std.proofs.Common.{sym, ap, ◌∙◌, arith, leb-true, length-append}
use Rattle.std.proofs.lemmas.Iterator.Adapters.{position_from-zero}
use Rattle.std.proofs.lemmas.List.{map-append, append-nil}
use Rattle.std.proofs.lemmas.List.Recursion.{or_push}
use Rattle.std.proofs.lemmas.List.Elements.{filter_map-append}
use Rattle.spec_language.specs.declared.types.DataType.{DataType}
use Rattle.spec_language.specs.declared.types.TypeDecl.{TypeDecl}
use Rattle.spec_language.specs.declared.tag.Scope.{Scope}
use Rattle.spec_language.specs.declared.tag.Scope.TheVariants.{Controller, Program}
use Rattle.spec_language.specs.declared.tag.TagCode.{TagCode}
use Rattle.spec_language.specs.declared.tag.TagCode.TheVariants.{G1, G2, G8}
use Rattle.spec_base.specs.FirstCause.{where_true, first}
use Rattle.spec_language.specs.Declarations.{tag, alias, Entry, Declarations, is_named, is_name_in, bytes, declared_as, entry_faults, declare_fault, alias_fault}
use Rattle.spec_language.specs.OperandForm.{is_tag_name}
use Rattle.spec_language.specs.Resolution.{target_of, aliases}
use Rattle.spec_language.proofs.FoundBounds.{and_left}
use Rattle.spec_base.proofs.Lists.{each_append, each_map, any_some}
use Rattle.lgx_tags.specs.Keys.{key_of}
use Rattle.lgx_tags.specs.Scopes.{IsScopeOf, is_own}
use Rattle.lgx_tags.specs.Tables.{IsAdmitted, RepresentsDeclarations, keys_of, has_own}
use Rattle.lgx_tags.specs.declared.key.Key.{Key}
use Rattle.lgx_tags.proofs.Spans.{padded_size, padded_total, total_append, total_ordered, end_is, ordered}
use Rattle.lgx_tags.proofs.Lookups.{same_key, key_position}
use Rattle.lgx_tags.proofs.Firsts.{first_more}
use Rattle.lgx_tags.proofs.TagNames.{named_tag}
use Rattle.std.proofs.lemmas.Bool.{lt-ltb, le-ltb}
use Rattle.std.proofs.Common.{get_or}
use Rattle.std.specs.Prelude.{slice_get}
use Rattle.std.proofs.lemmas.Option.{slice_get-get_or}
use Rattle.spec_base.specs.declared.limits.TheConstants.{MAX_IMAGE_BYTES, MAX_NAME_BYTES, MAX_TAG_NAME_BYTES}

-- ---- names

-- a name has at most MAX_TAG_NAME_BYTES bytes in either scope
pub name_short : (s : Scope) (name : List ℕ) → is_name_in s name ≡ true → length name ≤ MAX_TAG_NAME_BYTES
name_short Controller name p = leb-true (length name) MAX_TAG_NAME_BYTES (and_left (nat_le (length name) MAX_TAG_NAME_BYTES) _ p)
name_short (Program q) name p = omega (arith, leb-true (length name) MAX_NAME_BYTES (and_left (nat_le (length name) MAX_NAME_BYTES) _ p))

-- a name of either scope is a tag's name
pub name_tag : (s : Scope) (name : List ℕ) → is_name_in s name ≡ true → is_tag_name name ≡ true
name_tag Controller name p = p
name_tag (Program q) name p = named_tag name p

pub any_position : {X : Type 0} (test : X → Bool) (xs : List X) → list_any test xs ≡ is_some (position test xs)
any_position test xs = any_some test xs 0 ∙ ap is_some (sym (position_from-zero test xs))

pub misnamed : (d : Declarations) (s : Scope) (name : List ℕ) → is_name_in s name ≡ false → alias_fault d s name ≡ Some G1
misnamed d s name p = rw p refl

pub taken : (d : Declarations) (s : Scope) (name : List ℕ) (i : ℕ) → is_name_in s name ≡ true → position (is_named s name) d.entries ≡ Some i → alias_fault d s name ≡ Some G2
taken d s name i p q = let any : list_any (is_named s name) d.entries ≡ true = any_position (is_named s name) d.entries ∙ ap is_some q in rw (p, any) refl

pub free_name : (d : Declarations) (s : Scope) (name : List ℕ) → is_name_in s name ≡ true → position (is_named s name) d.entries ≡ None → alias_fault d s name ≡ None
free_name d s name p q = let any : list_any (is_named s name) d.entries ≡ false = any_position (is_named s name) d.entries ∙ ap is_some q in rw (p, any) refl

-- G8 comes after the faults of names
first_some : (xs ys : List TagCode) (code : TagCode) → first xs ≡ Some code → first (xs ++ ys) ≡ Some code
first_some [] ys code p = absurd (cc p)
first_some (x ∷ xs) ys code p = p

first_none : (xs ys : List TagCode) → first xs ≡ None → first (xs ++ ys) ≡ first ys
first_none [] ys p = refl
first_none (x ∷ xs) ys p = absurd (cc p)

pub name_first : (d : Declarations) (s : Scope) (name : List ℕ) (of : DataType) (code : TagCode) → alias_fault d s name ≡ Some code → declare_fault d s name of ≡ Some code
name_first d s name of code p = first_some (entry_faults d s name) _ code p

pub too_long : (d : Declarations) (s : Scope) (name : List ℕ) (of : DataType) → alias_fault d s name ≡ None → MAX_IMAGE_BYTES < bytes (declared_as d s name (tag of)) → declare_fault d s name of ≡ Some G8
too_long d s name of p h = first_none (entry_faults d s name) _ p ∙ ap (λ (b : Bool). first (where_true b G8)) (lt-ltb MAX_IMAGE_BYTES (bytes (declared_as d s name (tag of))) h)

pub fits_in : (d : Declarations) (s : Scope) (name : List ℕ) (of : DataType) → alias_fault d s name ≡ None → bytes (declared_as d s name (tag of)) ≤ MAX_IMAGE_BYTES → declare_fault d s name of ≡ None
fits_in d s name of p h = first_none (entry_faults d s name) _ p ∙ ap (λ (b : Bool). first (where_true b G8)) (le-ltb MAX_IMAGE_BYTES (bytes (declared_as d s name (tag of))) h)

-- ---- the entry of a number

pub entry_there : (es : List Entry) (i : ℕ) (e : Entry) → i < length es → e ≡ get_or es i e → slice_get es i ≡ Some e
entry_there es i e h p = slice_get-get_or es i e h ∙ ap Some (sym p)

-- ---- bytes

abbrev pub AreInScopes : ℕ → List Entry → Type 0
AreInScopes programs es = Each (λ e. IsScopeOf programs e.scope) es

pub all_placed : (types : List TypeDecl) (programs : ℕ) (es : List Entry) → Each (IsAdmitted types programs) es → AreInScopes programs es
all_placed types programs es h = each_map (IsAdmitted types programs) (λ e. IsScopeOf programs e.scope) es (λ e p. p.placed) h

pub bytes_are : (d : Declarations) → AreInScopes d.programs d.entries → bytes d ≡ padded_total d.types d.entries
bytes_are d h = omega (arith, end_is d.types 0 (ordered d.entries d.programs) refl, total_ordered d.types d.entries d.programs h)

-- one more entry takes its bytes, in whatever scope
pub bytes_more : (d : Declarations) (e : Entry) → AreInScopes d.programs d.entries → IsScopeOf d.programs e.scope → bytes (record d { entries = d.entries ++ e ∷ [] }) ≡ bytes d + padded_size d.types e
bytes_more d e h p =
    omega (arith, bytes_are (record d { entries = d.entries ++ e ∷ [] }) (each_append (λ e. IsScopeOf d.programs e.scope) d.entries (e ∷ []) h (p, tt)), bytes_are d h, total_append d.types d.entries (e ∷ []))

-- ---- what is kept

pub keys_more : (es : List Entry) (e : Entry) → keys_of (es ++ e ∷ []) ≡ keys_of es ++ key_of e.scope e.name ∷ []
keys_more es e = map-append (λ (e : Entry). key_of e.scope e.name) es (e ∷ [])

-- the key of a name that isn't there is not among the keys
pub key_new : (s : Scope) (name : List ℕ) (es : List Entry) → position (is_named s name) es ≡ None → list_any (same_key (key_of s name)) (keys_of es) ≡ false
key_new s name es p = any_position (same_key (key_of s name)) (keys_of es) ∙ ap is_some (key_position s name es ∙ p)

pub keys_insert : (s : Scope) (name : List ℕ) (es : List Entry) (ks : List Key) (k : Key) → ks ≡ keys_of es → k ≡ key_of s name → position (is_named s name) es ≡ None → (if list_any (same_key k) ks then ks else ks ++ k ∷ []) ≡ keys_of es ++ key_of s name ∷ []
keys_insert s name es ks k p q free = rw (p, q, key_new s name es free) refl

own_more : (es : List Entry) (e : Entry) → has_own (es ++ e ∷ []) ≡ (has_own es || is_own e.scope)
own_more es e = or_push has_own (λ (e : Entry). is_own e.scope) refl (λ x xs. refl) es e

pub kept_more : (d : Declarations) (e : Entry) (ks : List Key) (count count' : ℕ) (own own' : Bool) → RepresentsDeclarations d ks count own → position (is_named e.scope e.name) d.entries ≡ None → own' ≡ (own || is_own e.scope) → IsAdmitted d.types d.programs e → count' ≡ bytes (record d { entries = d.entries ++ e ∷ [] }) → count' ≤ MAX_IMAGE_BYTES → length (aliases (record d { entries = d.entries ++ e ∷ [] })) < 4294967296 → RepresentsDeclarations (record d { entries = d.entries ++ e ∷ [] }) (keys_of d.entries ++ key_of e.scope e.name ∷ []) count' own'
kept_more d e ks count count' own own' k free o l p r f = record { admitted = each_append (IsAdmitted d.types d.programs) d.entries (e ∷ []) k.admitted (l, tt); keyed = sym (keys_more d.entries e); counted = p; room = r; few = f; owned = o ∙ ap (λ (b : Bool). b || is_own e.scope) k.owned ∙ sym (own_more d.entries e); firsts = first_more d.entries e k.firsts free }

-- an alias takes no bytes
pub bytes_same : (d : Declarations) (e : Entry) → Each (IsAdmitted d.types d.programs) d.entries → IsScopeOf d.programs e.scope → padded_size d.types e ≡ 0 → bytes d ≡ bytes (record d { entries = d.entries ++ e ∷ [] })
bytes_same d e h p z = omega (arith, bytes_more d e (all_placed d.types d.programs d.entries h) p)

-- ---- aliases

pub aliases_more : (d : Declarations) (e : Entry) → aliases (record d { entries = d.entries ++ e ∷ [] }) ≡ aliases d ++ filter_map (λ (e : Entry). option_map (λ target. (e.scope, target)) (target_of e.meaning)) (e ∷ [])
aliases_more d e = filter_map-append (λ (e : Entry). option_map (λ target. (e.scope, target)) (target_of e.meaning)) d.entries (e ∷ [])

pub tag_no_alias : (d : Declarations) (s : Scope) (name : List ℕ) (of : DataType) → length (aliases d) < 4294967296 → length (aliases (declared_as d s name (tag of))) < 4294967296
tag_no_alias d s name of h = rw (aliases_more, append-nil) h

pub one_alias : (d : Declarations) (s : Scope) (name target : List ℕ) → length (aliases d) < 4294967295 → length (aliases (declared_as d s name (alias target))) < 4294967296
one_alias d s name target h = rw aliases_more (omega (arith, length-append (aliases d) ((s, target) ∷ [])))

pub tag_count_same : (d : Declarations) (s : Scope) (name : List ℕ) (of : DataType) → length (aliases (declared_as d s name (tag of))) ≡ length (aliases d)
tag_count_same d s name of = rw (aliases_more, append-nil) refl

pub alias_count_more : (d : Declarations) (s : Scope) (name target : List ℕ) → length (aliases (declared_as d s name (alias target))) ≡ length (aliases d) + 1
alias_count_more d s name target = rw aliases_more (length-append (aliases d) ((s, target) ∷ []))
