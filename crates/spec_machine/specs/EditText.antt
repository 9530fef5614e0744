-- The text that a rung edit keeps.
use Rattle.std.specs.Prelude.{ℕ, ◌-◌, List, length, take, drop, Bool, not, ◌&&◌, ◌||◌, nat_le, nat_eq}
use Rattle.std.specs.List.{list_any, prefix_len, suffix_len}
use Rattle.std.specs.Str.{bytes_eq}
use Rattle.spec_base.specs.declared.limits.TheConstants.{MAX_LINE_BYTES}
use Rattle.lgx_rung.specs.Tokens.{is_blank}

-- a text without the blanks of neutral text at its ends
abbrev pub trimmed : List ℕ → List ℕ
trimmed text = let front = drop (prefix_len is_blank text) text in take (length front - suffix_len is_blank front) front

-- what a rung edit keeps as its text: no more bytes than a line has, no line feed and no `|`, and no blank at its ends
abbrev pub is_edit_text : List ℕ → Bool
is_edit_text text = nat_le (length text) MAX_LINE_BYTES && not (list_any (λ c. nat_eq c 10 || nat_eq c 124) text) && bytes_eq (trimmed text) text
