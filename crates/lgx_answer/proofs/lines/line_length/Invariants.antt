use Rattle.std.proofs.Common.{◌≡◌, take, drop, ◌++◌}
use Rattle.std.specs.Io.BufRead.{take_through}
use Rattle.lgx_answer.proofs.lines.line_length.Given as goal

-- no LF came so far
abbrev pub invariant-loop-byte : goal.invariant-loop-byte
invariant-loop-byte l =
    (l.count ≡ l.byte-index)
    × (take_through 10 l.lines ≡ take l.count l.lines ++ take_through 10 (drop l.count l.lines))
