-- The piece keeps its length, and a failed read takes nothing.
use Rattle.std.proofs.Common.{◌≡◌, length}
use Rattle.std.specs.Io.KnownBytes.{Keeps}
use Rattle.lgx_live.proofs.reading.next_byte.Given as goal

abbrev pub invariant-loop : goal.invariant-loop
invariant-loop g l = (length l.piece ≡ 1) × Keeps (g.R.Read.remaining l.initial.reader) (g.R.Read.remaining l.reader)
