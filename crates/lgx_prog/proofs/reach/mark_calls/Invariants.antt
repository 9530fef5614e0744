use Rattle.std.proofs.Common.{◌≡◌, fold, drop}
use Rattle.lgx_prog.specs.Executes.{called_in}
use Rattle.lgx_prog.specs.Search.{with_found}
use Rattle.lgx_prog.proofs.reach.mark_calls.Given as goal

-- the calls that are left go on to the same search
abbrev pub invariant-loop-piece : goal.invariant-loop-piece
invariant-loop-piece l = fold with_found l.search (called_in (drop l.piece-index l.fn.code)) ≡ fold with_found l.fn.search (called_in l.fn.code)
