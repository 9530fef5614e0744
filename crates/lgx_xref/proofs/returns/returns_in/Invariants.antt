-- The returns of the calls among as many instructions as were passed.
use Rattle.std.proofs.Common.{◌≡◌, length, map, take}
use Rattle.lgx_xref.specs.Returns.{AreReturnsIn}
use Rattle.lgx_xref.proofs.returns.returns_in.Given as goal

abbrev pub invariant-loop-site : goal.invariant-loop-site
invariant-loop-site l = record {
  same : length l.returns.items ≡ l.routines;
  returns : AreReturnsIn l.spans (map (λ s. s.ins) (take l.site-index l.placed)) l.returns.items;
}
