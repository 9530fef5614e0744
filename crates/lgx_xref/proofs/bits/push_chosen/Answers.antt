-- One operand more, and no operand left.
use Rattle.std.proofs.Common.{◌++◌, sym, ap, ◌∙◌, arith}
use Rattle.std.proofs.lemmas.List.{append-nil}
use Rattle.lgx_rung.specs.declared.operands.OperandKind.TheVariants.{BoolPlace}
use Rattle.spec_uses.specs.Written.{first_bits}
use Rattle.lgx_xref.specs.Accesses.{is_chosen}
use Rattle.lgx_xref.proofs.Chosen.{kind_on, past_operands}
use Rattle.lgx_xref.proofs.bits.push_chosen.Goals as goal

pub loop-i-preserved : goal.loop-i-preserved
loop-i-preserved c =
    kind_on (is_chosen c.args.access c.args.op) c.args.kinds.now c.args.operands.now c.loop-i.i BoolPlace c.index-operands-i.result _ _ _
    c.loop-i-test.true (omega arith) c.index-operands-i.is c.is_chosen.ensures c.in_ok-push_if.ensures
    ∙ c.loop-i.invariant

pub returns-then-i-operands : goal.returns-then-i-operands
returns-then-i-operands c =
    sym (append-nil c.loop-i.bits.items)
    ∙ ap (λ os. c.loop-i.bits.items ++ first_bits os)
    (sym (past_operands (is_chosen c.args.access c.args.op) c.args.kinds.now c.args.operands.now c.loop-i.i c.if-i-operands.true))
    ∙ c.loop-i.invariant
