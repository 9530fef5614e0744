use Rattle.std.proofs.Common.{rules, arith, ℕ, ◌≤◌, ◌<◌, List, length, slice_range, IsTrue}
use Rattle.std.specs.List.{list_all}
use Rattle.lgx_rung.specs.Tokens.{is_operand, is_operand_byte}
use Rattle.lgx_neutral.proofs.Instructions.{begun, went_on, closes_after}
use Rattle.lgx_neutral.proofs.Runs.{operand_of_run, range_length}
use Rattle.lgx_neutral.proofs.lexer.list_end.Goals as goal

-- a run that isn't empty is an operand
word : (text : List ℕ) (at end : ℕ) → at < end → end ≤ length text → IsTrue (list_all is_operand_byte (slice_range text at end)) → IsTrue (is_operand (slice_range text at end))
word text at end h k run = operand_of_run (slice_range text at end) (omega (arith, range_length text at end (omega arith) k)) run

pub loop-at-init : goal.loop-at-init
loop-at-init c = begun c.args.text.now c.args.from

pub loop-at-preserved : goal.loop-at-preserved
loop-at-preserved c =
    let text = c.args.text.now in
    let some : c.loop-at.at < c.after_run-end.result = omega (arith, c.after_run-end.ensures.ahead, c.if-end-at.false) in
    let within : c.after_run-end.result < length text = omega (arith, c.after_run-end.ensures.within, c.if-end-text.false) in
    went_on text c.args.from c.loop-at.at c.after_run-end.result c.loop-at.invariant some within (search rules) (word text c.loop-at.at c.after_run-end.result some (omega arith) c.after_run-end.ensures.run) c.after_run-end.ensures.tokens

pub returns-then-text-end-eq41-clause-reads : goal.returns-then-text-end-eq41-clause-reads
returns-then-text-end-eq41-clause-reads c =
    let text = c.args.text.now in
    let some : c.loop-at.at < c.after_run-end.result = omega (arith, c.after_run-end.ensures.ahead, c.if-end-at.false) in
    let within : c.after_run-end.result < length text = omega (arith, c.after_run-end.ensures.within, c.if-end-text.false) in
    (closes_after text c.args.from c.loop-at.at c.after_run-end.result c.loop-at.invariant some within (search rules) (word text c.loop-at.at c.after_run-end.result some (omega arith) c.after_run-end.ensures.run) c.after_run-end.ensures.tokens).reads

pub returns-then-text-end-eq41-clause-operands : goal.returns-then-text-end-eq41-clause-operands
returns-then-text-end-eq41-clause-operands c =
    let text = c.args.text.now in
    let some : c.loop-at.at < c.after_run-end.result = omega (arith, c.after_run-end.ensures.ahead, c.if-end-at.false) in
    let within : c.after_run-end.result < length text = omega (arith, c.after_run-end.ensures.within, c.if-end-text.false) in
    (closes_after text c.args.from c.loop-at.at c.after_run-end.result c.loop-at.invariant some within (search rules) (word text c.loop-at.at c.after_run-end.result some (omega arith) c.after_run-end.ensures.run) c.after_run-end.ensures.tokens).are
