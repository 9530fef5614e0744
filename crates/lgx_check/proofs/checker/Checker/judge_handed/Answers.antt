use Rattle.std.proofs.Common.{◌≡◌, length, ap, sym, ◌∙◌, subst, Some}
use Rattle.lgx_rung.specs.OperandTable.{operand_kinds}
use Rattle.spec_language.specs.Checked.{operands_of}
use Rattle.spec_language.specs.Operands.{paired, second_number}
use Rattle.lgx_check.specs.Answers.{AnswersArgs}
use Rattle.lgx_check.specs.Checkers.{checked_scope}
use Rattle.lgx_check.specs.Pairs.{in_pairs}
use Rattle.lgx_check.specs.Spots.{spot_of}
use Rattle.lgx_check.proofs.Judging.{paired_handed}
use Rattle.lgx_check.proofs.checker.Checker.judge_handed.Goals as goal

pub returns-in-Some : goal.returns-in-Some
returns-in-Some c =
    let op = c.args.op in
    let texts = c.args.texts.now in
    let said : operand_kinds op (second_number texts) (length texts) ≡ Some c.in-Some.kinds =
    ap (λ s. operand_kinds op s (length texts)) (sym c.second_number.ensures)
    ∙ ap (operand_kinds op c.second_number.result) (sym c.len.ensures)
    ∙ sym c.operand_kinds.ensures
    ∙ c.in-Some.is in
    let pairs : in_pairs c.as_slice.result.now texts ≡ paired op texts = ap (λ ks. in_pairs ks texts) c.as_slice.ensures.value ∙ sym (paired_handed op texts c.in-Some.kinds said) in
    subst (λ ps. AnswersArgs (operands_of (checked_scope c.args.self.now) c.args.self.now.labels (spot_of c.args.spot) ps) c.judge.result) pairs c.judge.ensures
