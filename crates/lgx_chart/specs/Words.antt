-- The words of a report's lines.
use Rattle.std.specs.Prelude.{ℕ, List, Bool, not, ◌&&◌, nat_le}
use Rattle.std.specs.List.{list_all}
use Rattle.spec_base.specs.Pieces.{is_empty}

-- a byte that is printed, and no space
abbrev pub is_printed : ℕ → Bool
is_printed c = nat_le 33 c && nat_le c 126

abbrev pub is_word : List ℕ → Bool
is_word text = not (is_empty text) && list_all is_printed text

abbrev pub are_words : List (List ℕ) → Bool
are_words texts = list_all is_word texts
