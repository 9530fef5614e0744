use Rattle.std.proofs.Common.{◌≡◌, ◌≤◌, ◌+◌, ◌++◌, map, drop, length}
use Rattle.std.specs.Prelude.{filter_map}
use Rattle.std.specs.List.{zip}
use Rattle.std.specs.Result.{result_ok, result_err}
use Rattle.spec_language.specs.Checked.{least, operand_of}
use Rattle.lgx_check.specs.Judging.{lesser_of}
use Rattle.lgx_check.specs.Checkers.{checked_scope}
use Rattle.lgx_check.specs.Spots.{spot_of}
use Rattle.lgx_check.proofs.checker.Checker.judge_all.Given as goal

abbrev pub invariant-loop-kind : goal.invariant-loop-kind
invariant-loop-kind l =
    let meant = operand_of (checked_scope l.self) l.self.labels (spot_of l.spot) in
    record {
      args : l.judged.args.items ++ filter_map result_ok (map meant (zip (drop l.kind-index l.kinds) l.operands)) ≡ filter_map result_ok (map meant (zip l.kinds l.texts));
      code : lesser_of l.judged.code (least (filter_map result_err (map meant (zip (drop l.kind-index l.kinds) l.operands)))) ≡ least (filter_map result_err (map meant (zip l.kinds l.texts)));
      count : l.kind-index + length l.operands ≡ length l.texts;
      within : l.kind-index ≤ length l.kinds;
    }
