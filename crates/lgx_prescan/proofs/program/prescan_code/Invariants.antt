use Rattle.std.proofs.Common.{◌≡◌, length, drop}
use Rattle.std.specs.Prelude.{fold}
use Rattle.std.specs.List.{AllByRecursion as Each}
use Rattle.spec_scan.specs.Prescan.{prescan_ins}
use Rattle.lgx_image.specs.Grains.{ChangesOnlyMarked}
use Rattle.lgx_prog.specs.Executes.{executes}
use Rattle.spec_scan.specs.Executable.{IsExecutable}
use Rattle.lgx_prescan.proofs.program.prescan_code.Given as goal

abbrev pub invariant-loop-piece : goal.invariant-loop-piece
invariant-loop-piece l = record {
  bytes : fold prescan_ins l.image.bytes (executes (drop l.piece-index l.code)) ≡ fold prescan_ins l.fn.image.bytes (executes l.code);
  executable : Each (IsExecutable (length l.fn.image.bytes)) (executes (drop l.piece-index l.code));
  only_marked : ChangesOnlyMarked l.fn.image l.image;
}
