use Rattle.std.proofs.Common.{◌≡◌, take}
use Rattle.spec_machine.specs.Actions.{prescan_all}
use Rattle.lgx_image.specs.Grains.{ChangesOnlyMarked}
use Rattle.lgx_edit.specs.EditsView.{books}
use Rattle.lgx_steps.proofs.modes.prescan_all.Given as goal

abbrev pub invariant-loop-n : goal.invariant-loop-n
invariant-loop-n l = record {
  bytes : l.image.bytes ≡ prescan_all (take l.n (books l.book)) l.fn.image.bytes;
  only_marked : ChangesOnlyMarked l.fn.image l.image;
}
