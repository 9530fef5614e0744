use Rattle.std.proofs.Common.{◌≡◌}
use Rattle.lgx_types.specs.Sizing.{IsBegun}
use Rattle.lgx_types.proofs.sizing.size_members.Given as goal

abbrev pub invariant-loop-k : goal.invariant-loop-k
invariant-loop-k l = record {
  begun : IsBegun l.resolved l.frame;
  same : l.frame.structure ≡ l.fn.frame.structure;
  place : l.frame.next ≡ l.k;
}
