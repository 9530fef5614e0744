-- Lists whose elements are alike but for their numbers.
use Rattle.std.specs.Prelude.{ℕ, List, [], ◌∷◌, ◌++◌, map, ◌==◌, if◌then◌else◌, decimal}
use Rattle.std.specs.List.{join_with_byte, range_with_len}

-- a text with a number in it
abbrev pub numbered : List ℕ → List ℕ → ℕ → List ℕ
numbered before after number = before ++ decimal number ++ after

-- the texts of `count` numbers, from 0 on, with commas between them
unfoldable pub listed : (ℕ → List ℕ) → ℕ → List ℕ
listed text count = join_with_byte 44 (map text (range_with_len 0 count))

-- the comma before an element of a list
abbrev pub comma_before : ℕ → List ℕ
comma_before number = if number == 0 then [] else 44 ∷ []
