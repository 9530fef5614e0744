-- Tags that lie apart, and the tag that has a bit.
use Rattle.std.specs.Prelude.{◌≡◌, ℕ, ◌<◌, ◌≤◌, Bool, false, List, length, nat_eq, slice_index_or, Option, Some, None}
use Rattle.spec_language.specs.declared.span.TagSpan.{TagSpan}
use Rattle.spec_uses.specs.Uses.{no_span, holds_bit}

abbrev pub span_in : List TagSpan → ℕ → TagSpan
span_in spans k = slice_index_or spans k no_span

-- no tag ends before it begins, and each ends before a later one begins
pub record AreApart (spans : List TagSpan) : Type 0 where
  pub forward : (k : ℕ) → k < length spans → (span_in spans k).start ≤ (span_in spans k).end
  pub apart : (j k : ℕ) → j < k → k < length spans → (span_in spans j).end ≤ (span_in spans k).start

-- this tag, if there is one
abbrev pub is_number : Option ℕ → ℕ → Bool
is_number None k = false
is_number (Some n) k = nat_eq k n

-- the tag, if there is one, is one of these, and it alone has the bit
pub record IsTagWith (spans : List TagSpan) (bit : ℕ) (tag : Option ℕ) : Type 0 where
  pub within : (k : ℕ) → tag ≡ Some k → k < length spans
  pub has : (k : ℕ) → k < length spans → holds_bit (span_in spans k) bit ≡ is_number tag k
