use Rattle.std.proofs.Common.{◌≡◌, ℕ, length, drop}
use Rattle.std.specs.Prelude.{fold, flat_map}
use Rattle.std.specs.List.{AllByRecursion as Each}
use Rattle.spec_scan.specs.Prescan.{prescan_ins}
use Rattle.lgx_image.specs.Grains.{ChangesOnlyMarked}
use Rattle.lgx_prog.specs.Executes.{executes}
use Rattle.lgx_prog.specs.FlatProgram.{routine_at}
use Rattle.spec_scan.specs.Executable.{IsExecutable}
use Rattle.lgx_prescan.proofs.program.prescan.Given as goal

abbrev pub invariant-loop-routine : goal.invariant-loop-routine
invariant-loop-routine l = record {
  bytes : fold prescan_ins l.image.bytes (flat_map (λ n. executes (routine_at l.program n).code) (drop l.routine-index l.routine-items)) ≡ fold prescan_ins l.fn.image.bytes (flat_map (λ n. executes (routine_at l.program n).code) l.program.reached);
  executable : (n : ℕ) → Each (IsExecutable (length l.fn.image.bytes)) (executes (routine_at l.program n).code);
  only_marked : ChangesOnlyMarked l.fn.image l.image;
}
