-- The tags that have some of these bits.
use Rattle.std.specs.Prelude.{◌≡◌, ℕ, ◌<◌, List, [], ◌∷◌, ◌++◌, if◌then◌else◌, length, nat_eq}
use Rattle.std.specs.List.{list_any}
use Rattle.spec_language.specs.declared.span.TagSpan.{TagSpan}
use Rattle.spec_uses.specs.Uses.{holds_bit}
use Rattle.lgx_xref.specs.Apart.{span_in}

abbrev pub with_tag : List ℕ → ℕ → List ℕ
with_tag tags tag = if list_any (nat_eq tag) tags then tags else tags ++ tag ∷ []

-- exactly the tags that have one of the bits
abbrev pub AreTagsOf : List TagSpan → List ℕ → List ℕ → Type 0
AreTagsOf spans bits tags =
    (k : ℕ) → k < length spans → list_any (nat_eq k) tags ≡ list_any (holds_bit (span_in spans k)) bits
