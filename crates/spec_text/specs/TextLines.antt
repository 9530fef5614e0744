-- The lines of a text, the words of a line, and numbers. Each mark of a text is one byte.
use Rattle.std.specs.Prelude.{ℕ, ◌-◌, ◌+◌, ◌*◌, ◌^◌, List, [], ◌∷◌, ◌++◌, length, take, drop, fold, filter, Bool, true, false, not, ◌&&◌, ◌||◌, nat_lt, nat_le, nat_eq, if◌then◌else◌, ℤ, pos, neg_ℤ, int_le, Option, Some, None}
use Rattle.std.specs.List.{list_any, prefix_len, suffix_len, join_with_byte}
use Rattle.std.specs.Str.{bytes_eq, all_ascii_digits}
use Rattle.spec_base.specs.Pieces.{pieces, is_empty}

-- ---- lines

-- a carriage return at the end is dropped
abbrev pub without_return : List ℕ → List ℕ
without_return line = take (length line - (if nat_eq (suffix_len (λ c. nat_eq c 13) line) 0 then 0 else 1)) line

-- Lines end with a line feed, and a carriage return right before it is dropped. What comes after the last line feed is a line if it
-- has a byte.
abbrev pub lines_of_pieces : List (List ℕ) → List (List ℕ)
lines_of_pieces [] = []
lines_of_pieces (p ∷ []) = if is_empty p then [] else p ∷ []
lines_of_pieces (p ∷ q ∷ ps) = without_return p ∷ lines_of_pieces (q ∷ ps)

abbrev pub lines : List ℕ → List (List ℕ)
lines text = lines_of_pieces (pieces 10 text)

-- an empty line and one that begins with `#` are skipped
abbrev pub is_skipped : List ℕ → Bool
is_skipped [] = true
is_skipped (c ∷ cs) = nat_eq c 35

-- ---- words

abbrev pub is_space : ℕ → Bool
is_space c = nat_eq c 32

-- words are separated by one or more spaces; spaces before the first and after the last do no harm
abbrev pub words : List ℕ → List (List ℕ)
words line = filter (λ w. not (is_empty w)) (pieces 32 line)

-- the first word, or nothing if there is none, and what comes after it
abbrev pub from_word : List ℕ → List ℕ
from_word line = drop (prefix_len is_space line) line

abbrev pub word_len : List ℕ → ℕ
word_len text = prefix_len (λ c. not (is_space c)) text

abbrev pub first_word : List ℕ → List ℕ
first_word line = take (word_len (from_word line)) (from_word line)

abbrev pub after_word : List ℕ → List ℕ
after_word line = drop (word_len (from_word line)) (from_word line)

-- words with a space between each two
abbrev pub spaced : List (List ℕ) → List ℕ
spaced ws = join_with_byte 32 ws

-- the same, and a line feed after them
abbrev pub line_of : List (List ℕ) → List ℕ
line_of ws = spaced ws ++ 10 ∷ []

-- ---- numbers

abbrev pub value_of : List ℕ → ℕ
value_of ds = fold (λ n c. n * 10 + (c - 48)) 0 ds

-- 1 to 10 decimal digits; zeros in front do no harm
abbrev pub is_digits : List ℕ → Bool
is_digits ds = nat_le 1 (length ds) && nat_le (length ds) 10 && all_ascii_digits ds

-- a number of a text that isn't negative: digits, with the range of u32
abbrev pub unsigned_of : List ℕ → Option ℕ
unsigned_of ds = if is_digits ds && nat_lt (value_of ds) (2 ^ 32) then Some (value_of ds) else None

-- a value or mask: digits, perhaps with a `-` before them, with the range of i32
abbrev pub as_i32 : ℤ → Option ℤ
as_i32 v = if int_le (neg_ℤ (pos (2 ^ 31))) v && int_le v (pos (2 ^ 31 - 1)) then Some v else None

abbrev pub magnitude : Bool → List ℕ → ℤ
magnitude true ds = neg_ℤ (pos (value_of ds))
magnitude false ds = pos (value_of ds)

abbrev pub value_when : Bool → List ℕ → Option ℤ
value_when negative ds = if is_digits ds then as_i32 (magnitude negative ds) else None

abbrev pub signed_of : List ℕ → Option ℤ
signed_of [] = None
signed_of (c ∷ cs) = if nat_eq c 45 then value_when true cs else value_when false (c ∷ cs)
