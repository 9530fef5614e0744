use Rattle.std.proofs.Common.{◌≡◌, false, filter, slice_index_or}
use Rattle.std.specs.List.{range_with_len}
use Rattle.lgx_prog.proofs.reach.marked.Given as goal

abbrev pub invariant-loop-number : goal.invariant-loop-number
invariant-loop-number l = l.numbers.items ≡ filter (λ n. slice_index_or l.fn.marks n false) (range_with_len 0 l.number)
