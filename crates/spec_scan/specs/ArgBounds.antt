-- When operands with their places worked out lie in an image.
use Rattle.std.specs.Prelude.{ℕ, ◌+◌, ◌≤◌, List}
use Rattle.lgx_num.specs.Image.{InBounds}
use Rattle.spec_base.specs.declared.limits.TheConstants.{TIMER_BYTES, COUNTER_BYTES}
use Rattle.spec_scan.specs.declared.bound.Arg.{Arg}
use Rattle.spec_scan.specs.declared.bound.Arg.TheVariants.{Cell, Timer, Counter, Block}
use Rattle.spec_scan.specs.Arguments.{arg}

-- what an operand with its place worked out names lies in an image of this many bytes, a TIMER and a
-- COUNTER by all its bytes, and an element by its size, at least 1, up to the end of its tag
abbrev pub ArgInBounds : Arg → ℕ → Type 0
ArgInBounds (Cell place) len = InBounds place len
ArgInBounds (Timer at) len = at + TIMER_BYTES ≤ len
ArgInBounds (Counter at) len = at + COUNTER_BYTES ≤ len
ArgInBounds (Block at size stop) len = (1 ≤ size) × (at + size ≤ len) × (at + size ≤ stop)
ArgInBounds _ len = Unit {0}

-- so do all of them
abbrev pub ArgsInBounds : List Arg → ℕ → Type 0
ArgsInBounds args len = (i : ℕ) → ArgInBounds (arg args i) len
