-- What was read so far is what is gone from the file, and no more than a file may have.
use Rattle.std.proofs.Common.{◌≤◌, length}
use Rattle.std.specs.Io.KnownBytes.{Consumes}
use Rattle.lgx_io.proofs.reading.read_to_end.Given as goal
use Rattle.spec_base.specs.declared.limits.TheConstants.{MAX_FILE_BYTES}

abbrev pub invariant-loop : goal.invariant-loop
invariant-loop g l = record {
  short : length l.bytes.items ≤ MAX_FILE_BYTES;
  read : Consumes (g.R.Read.remaining l.initial.file) (g.R.Read.remaining l.file) l.bytes.items;
}
