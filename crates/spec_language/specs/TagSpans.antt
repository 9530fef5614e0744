-- The tags in the order of their layout, and the bytes of each.
use Rattle.std.specs.Prelude.{ℕ, ◌+◌, Bool, true, false, List, map, filter}
use Rattle.spec_language.specs.declared.types.TypeDecl.{TypeDecl}
use Rattle.spec_language.specs.declared.span.TagSpan.{TagSpan}
use Rattle.spec_language.specs.Declarations.{Meaning, tag, alias, Entry, Declarations, entry_size, laid}

abbrev pub is_tag : Meaning → Bool
is_tag (tag of) = true
is_tag (alias target) = false

-- the tags, aliases left out, each with the byte at which it begins
abbrev pub is_laid_tag : ℕ × Entry → Bool
is_laid_tag x = is_tag x.1.meaning

abbrev pub tags_of : Declarations → List (ℕ × Entry)
tags_of d = filter is_laid_tag (laid d)

-- a tag's scope and bytes
abbrev pub span_of : List TypeDecl → ℕ × Entry → TagSpan
span_of types x = record { scope = x.1.scope; start = x.0; end = x.0 + entry_size types x.1 }

abbrev pub spans_of : Declarations → List TagSpan
spans_of d = map (span_of d.types) (tags_of d)

abbrev pub tag_names : Declarations → List (List ℕ)
tag_names d = map (λ x. x.1.name) (tags_of d)
