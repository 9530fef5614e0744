-- What is known of a line of a text, and of a part of it.
use Rattle.std.specs.Prelude.{ℕ, List, length, Bool, not, ◌&&◌, ◌||◌, nat_le, nat_eq}
use Rattle.std.specs.List.{list_any}
use Rattle.spec_base.specs.Pieces.{has_byte}
use Rattle.spec_base.specs.declared.limits.TheConstants.{MAX_LINE_BYTES}

-- no line feed is in it, and it has not too many bytes
abbrev pub is_plain : List ℕ → Bool
is_plain text = nat_le (length text) MAX_LINE_BYTES && not (has_byte 10 text)

-- the same of a part between marks `|`
abbrev pub is_part : List ℕ → Bool
is_part text = nat_le (length text) MAX_LINE_BYTES && not (list_any (λ c. nat_eq c 10 || nat_eq c 124) text)
