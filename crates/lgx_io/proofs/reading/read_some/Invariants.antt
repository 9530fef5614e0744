-- The buffer keeps its length, and a failed read takes nothing.
use Rattle.std.proofs.Common.{◌≡◌, length}
use Rattle.std.specs.Io.KnownBytes.{Keeps}
use Rattle.lgx_io.proofs.reading.read_some.Given as goal

abbrev pub invariant-loop : goal.invariant-loop
invariant-loop g l = (length l.piece ≡ length l.initial.piece) × Keeps (g.R.Read.remaining l.initial.file) (g.R.Read.remaining l.file)
