-- Those before are added.
use Rattle.std.proofs.Common.{◌≡◌, ◌++◌, take}
use Rattle.lgx_prog.proofs.same.append_pieces.Given as goal

abbrev pub invariant-loop-piece : goal.invariant-loop-piece
invariant-loop-piece l = l.list.items ≡ l.fn.list.items ++ take l.piece-index l.code
