use Rattle.std.proofs.Common.{List, length, sym, subst, ap, arith}
use Rattle.std.specs.List.{All}
use Rattle.lgx_num.specs.declared.place.Operand.{Operand}
use Rattle.spec_scan.specs.Executable.{EndsIn}
use Rattle.spec_scan.proofs.CallOperands.{few_bound}
use Rattle.lgx_prog.proofs.HandsOver.{no_more}
use Rattle.lgx_engine.proofs.row.work_out.Goals as goal

pub bind-requires-clause-room : goal.bind-requires-clause-room
bind-requires-clause-room c = omega (arith, few_bound c.args.ins.now.op c.args.ins.now.args (no_more c.args.ins.now.op c.requires.alone) c.requires.executable.fit, ap length c.as_slice.ensures)

pub execute-requires-clause-ends : goal.execute-requires-clause-ends
execute-requires-clause-ends c =
    c.in-Some.ensures.ends (length c.args.image.now.bytes)
    (subst (λ (operands : List Operand). All (EndsIn (length c.args.image.now.bytes)) operands) (sym c.as_slice.ensures) c.requires.executable.ends)
