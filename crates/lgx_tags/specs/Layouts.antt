-- Where the tags lie: their numbers among the entries, scope by scope, and what is known of each entry when they are laid.
use Rattle.std.specs.Prelude.{◌^◌, ℕ, suc, ◌+◌, ◌*◌, ◌<◌, cond, List, [], ◌∷◌, ◌++◌, map, flat_map, fold, replicate, slice_set, slice_index_or, Result, Ok, Err}
use Rattle.std.specs.List.{range_with_len}
use Rattle.spec_language.specs.declared.types.TypeDecl.{TypeDecl}
use Rattle.spec_language.specs.declared.tag.Scope.{Scope}
use Rattle.spec_language.specs.declared.tag.Scope.TheVariants.{Controller, Program}
use Rattle.spec_language.specs.declared.tag.TagCode.{TagCode}
use Rattle.spec_language.specs.declared.tag.TagCode.TheVariants.{G7}
use Rattle.spec_language.specs.Layout.{round_up, size_of}
use Rattle.spec_language.specs.Declarations.{Meaning, tag, alias, Entry, Declarations, same_scope}
use Rattle.lgx_tags.specs.declared.layout.NumberedTag.{NumberedTag}
use Rattle.lgx_tags.specs.declared.layout.PlacedTag.{PlacedTag}
use Rattle.lgx_tags.specs.declared.layout.FixedPlace.{FixedPlace}

-- the scopes in the order of the layout, and the place of a scope among them
abbrev pub scopes : ℕ → List Scope
scopes programs = Controller ∷ map Program (range_with_len 0 programs)

abbrev pub slot_of : Scope → ℕ
slot_of Controller = 0
slot_of (Program p) = p + 1

-- the tags of a scope in order of declaration, with their numbers among all entries
abbrev pub numbered : ℕ → Meaning → List NumberedTag
numbered n (tag of) = record { entry = n; of = of } ∷ []
numbered n (alias target) = []

abbrev pub tags_in : Scope → ℕ → List Entry → List NumberedTag
tags_in s n [] = []
tags_in s n (e ∷ es) = cond (same_scope e.scope s) (numbered n e.meaning) [] ++ tags_in s (suc n) es

-- the entry of a number put after the tags of its scope
abbrev pub with_entry : List (List NumberedTag) → ℕ → Scope → Meaning → List (List NumberedTag)
with_entry rows n s (tag of) = slice_set rows (slot_of s) (slice_index_or rows (slot_of s) [] ++ record { entry = n; of = of } ∷ [])
with_entry rows n s (alias target) = rows

abbrev pub rows_of : List Entry → ℕ → List (List NumberedTag)
rows_of entries programs = map (λ s. tags_in s 0 entries) (scopes programs)

abbrev pub order_of : Declarations → List NumberedTag
order_of d = flat_map (λ s. tags_in s 0 d.entries) (scopes d.programs)

-- each tag after the one before it, at the next multiple of 4
abbrev pub place_tags : List TypeDecl → ℕ → List NumberedTag → List PlacedTag
place_tags types at [] = []
place_tags types at (t ∷ ts) = record { entry = t.entry; of = t.of; start = at; end = at + size_of types t.of } ∷ place_tags types (round_up 4 (at + size_of types t.of)) ts

abbrev pub place_tags_end : List TypeDecl → ℕ → List NumberedTag → ℕ
place_tags_end types at [] = at
place_tags_end types at (t ∷ ts) = place_tags_end types (round_up 4 (at + size_of types t.of)) ts

abbrev pub placed_tags : Declarations → List PlacedTag
placed_tags d = place_tags d.types 0 (order_of d)

-- a tag's entry is one of `count` entries, and its first bit's number is a small one
abbrev pub IsOfEntries : ℕ → PlacedTag → Type 0
IsOfEntries count l = (l.entry < count) × (8 * l.start < 2 ^ 32)

-- a tag is a place from the beginning; of an alias it isn't known where its chain ends
abbrev pub place_of : PlacedTag → FixedPlace
place_of l = record { at = 8 * l.start; of = l.of; stop = l.end }

abbrev pub with_tag : List (Result FixedPlace TagCode) → PlacedTag → List (Result FixedPlace TagCode)
with_tag known l = slice_set known l.entry (Ok (place_of l))

abbrev pub known_from : ℕ → List PlacedTag → List (Result FixedPlace TagCode)
known_from count laid = fold with_tag (replicate count (Err G7)) laid
