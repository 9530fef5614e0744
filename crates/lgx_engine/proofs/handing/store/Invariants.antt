use Rattle.std.proofs.Common.{◌≡◌, length}
use Rattle.lgx_image.specs.Grains.{ChangesOnlyMarked}
use Rattle.lgx_engine.proofs.Stores.{Stores}
use Rattle.lgx_engine.proofs.handing.store.Given as goal

abbrev pub invariant-loop-number : goal.invariant-loop-number
invariant-loop-number l = record {
  len : length l.image.bytes ≡ length l.initial.image.bytes;
  stores : Stores l.initial.image.bytes l.image.bytes l.places l.numbers l.number;
  only_marked : ChangesOnlyMarked l.initial.image l.image;
}
