-- The places so far are woven with the base, of which the rest is left.
use Rattle.std.proofs.Common.{◌≡◌, length}
use Rattle.lgx_edit.specs.Merging.{woven}
use Rattle.lgx_edit.proofs.Picking.{rest_after}
use Rattle.lgx_edit.proofs.merge.weave.Given as goal

abbrev pub invariant-loop-around : goal.invariant-loop-around
invariant-loop-around l = record {
  woven : l.picks.items ≡ woven l.base l.yielded;
  rest : l.rest ≡ rest_after (length l.yielded) l.base;
}
