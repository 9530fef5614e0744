use Rattle.std.proofs.Common.{◌++◌, length-append, take, arith}
use Rattle.std.proofs.KnownBytes.{Consumes-trans}
use Rattle.std.proofs.lemmas.List.{length-take-le}
use Rattle.lgx_io.proofs.reading.read_to_end.Goals as goal

pub returns-then-taken-gt-MAX_FILE_BYTES-clause-came : goal.returns-then-taken-gt-MAX_FILE_BYTES-clause-came
returns-then-taken-gt-MAX_FILE_BYTES-clause-came g c =
    let now = take c.in-Some.count c.read_some.new.piece in
    let count = length-take-le c.in-Some.count c.read_some.new.piece c.in-Some.ensures.bound in (
      c.loop.bytes.items ++ now,
      Consumes-trans _ _ _ _ _ c.loop.invariant.read c.in-Some.ensures.bytes,
      omega (arith, length-append c.loop.bytes.items now, count, c.len.ensures),
    )
