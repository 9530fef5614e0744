-- Those before are the same.
use Rattle.std.proofs.Common.{◌≡◌, ◌+◌, ◌*◌, length, take}
use Rattle.lgx_rung.specs.Sizes.{tree_size, list_size}
use Rattle.lgx_rung.proofs.Walks.{element_size}
use Rattle.lgx_edit.proofs.same_texts.+same.Given as goal

abbrev pub invariant-same_source-loop-number : goal.invariant-same_source-loop-number
invariant-same_source-loop-number l = (length l.ours ≡ length l.others) × (l.number-end ≡ length l.ours) × (take l.number l.ours ≡ take l.number l.others)

abbrev pub invariant-same_legs-loop-number : goal.invariant-same_legs-loop-number
invariant-same_legs-loop-number l = (length l.ours ≡ length l.others) × (l.number-end ≡ length l.ours) × (take l.number l.ours ≡ take l.number l.others)

abbrev pub decreases-same_source : goal.decreases-same_source
decreases-same_source l = 2 * tree_size l.a.now

abbrev pub decreases-same_element : goal.decreases-same_element
decreases-same_element l = 2 * element_size l.a.now

abbrev pub decreases-same_legs : goal.decreases-same_legs
decreases-same_legs l = 2 * list_size l.a.now + 1
