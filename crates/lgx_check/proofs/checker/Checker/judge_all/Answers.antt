use Rattle.std.proofs.Common.{◌≡◌, ℕ, ◌+◌, List, [], ◌++◌, length, map, get_or, drop, ap, sym, ◌∙◌, arith}
use Rattle.std.specs.Prelude.{filter_map}
use Rattle.std.specs.List.{zip}
use Rattle.std.specs.Result.{result_ok, result_err}
use Rattle.std.proofs.lemmas.List.{append-nil}
use Rattle.lgx_rung.specs.declared.operands.OperandKind.{OperandKind}
use Rattle.lgx_rung.specs.declared.operands.OperandKind.TheVariants.{BoolPlace}
use Rattle.spec_language.specs.Checked.{least, operand_of}
use Rattle.lgx_check.specs.Checkers.{checked_scope}
use Rattle.lgx_check.specs.Judging.{lesser_of}
use Rattle.lgx_check.specs.Spots.{spot_of}
use Rattle.lgx_check.proofs.Judging.{args_more, code_more, lesser_none, zip_first, zip_end, zip_none}
use Rattle.lgx_check.proofs.checker.Checker.judge_all.Goals as goal

pub loop-kind-preserved : goal.loop-kind-preserved
loop-kind-preserved c =
    let meant = operand_of (checked_scope c.args.self.now) c.args.self.now.labels (spot_of c.args.spot) in
    let kinds = c.args.kinds.now in
    let i = c.loop-kind.kind-index in
    let p : OperandKind × List ℕ = (get_or kinds i BoolPlace, c.in-Some.text.now) in
    let pairs = zip_first kinds i BoolPlace c.loop-kind.operands c.next.new.self c.in-Some.text.now c.loop-kind-test.true c.in-Some.ensures.operands in
    let rest = map meant (zip (drop (i + 1) kinds) c.next.new.self) in
    record {
      args = args_more c.loop-kind.judged.args.items c.add.new.self.args.items (meant p) rest (c.in_ok-add.ensures.args (meant p) c.check_operand-answer.ensures)
          ∙ ap (λ ps. c.loop-kind.judged.args.items ++ filter_map result_ok (map meant ps)) (sym pairs)
          ∙ c.loop-kind.invariant.args;
      code = code_more c.loop-kind.judged.code c.add.new.self.code (meant p) rest (c.in_ok-add.ensures.code (meant p) c.check_operand-answer.ensures)
          ∙ ap (λ ps. lesser_of c.loop-kind.judged.code (least (filter_map result_err (map meant ps)))) (sym pairs)
          ∙ c.loop-kind.invariant.code;
      count = omega (arith, ap length c.in-Some.ensures.operands, c.loop-kind.invariant.count);
      within = omega (arith, c.loop-kind-test.true);
    }
