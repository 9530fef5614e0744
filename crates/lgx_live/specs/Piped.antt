-- A console over a reader and a writer, as contracts see it.
use Rattle.std.specs.Prelude.{◌≡◌, ℕ, ◌+◌, List, [], ◌∷◌, take, map, false, Option, None, option_map}
use Rattle.std.specs.Io.KnownBytes.{Consumes, IsAtEnd}
use Rattle.spec_base.specs.Pieces.{has_byte}
use Rattle.spec_base.specs.declared.limits.TheConstants.{MAX_LINE_BYTES}
use Rattle.spec_text.specs.TextLines.{lines}
use Rattle.lgx_io.specs.Gathered.{GatheredState, held_by}
use Rattle.lgx_live.specs.Console.{ConsoleSeen}

-- a line as it comes: of one that is too long, as many bytes as show it
abbrev pub cut : List ℕ → List ℕ
cut line = take (MAX_LINE_BYTES + 1) line

-- the lines of bytes that are still to come
abbrev pub lines_of : List ℕ → List (List ℕ)
lines_of bytes = map cut (lines bytes)

abbrev pub console_seen : Option (List ℕ) → GatheredState → ℕ → ConsoleSeen
console_seen left output misses = record {
  lines = option_map lines_of left;
  asked = None;
  held = held_by output;
  waiting = output.waiting;
  faults = output.faults;
  misses = misses;
}

-- what is kept of a line before it is cut: a carriage return may be dropped
abbrev pub kept : List ℕ → List ℕ
kept raw = take (MAX_LINE_BYTES + 2) raw

-- These bytes came, none of them a line feed, and this was kept of them.
pub record CameSoFar (old new : Option (List ℕ)) (line : List ℕ) : Type 0 where
  pub raw : List ℕ
  pub came : Consumes old new raw
  pub clean : has_byte 10 raw ≡ false
  pub keeps : line ≡ kept raw

-- A line and its line feed came.
pub record CameWhole (old new : Option (List ℕ)) (line : List ℕ) : Type 0 where
  pub between : Option (List ℕ)
  pub so_far : CameSoFar old between line
  pub feed : Consumes between new (10 ∷ [])

-- All bytes up to the end came.
pub record CameLast (old new : Option (List ℕ)) (line : List ℕ) : Type 0 where
  pub so_far : CameSoFar old new line
  pub end : IsAtEnd new
