use Rattle.std.proofs.Common.{◌≡◌, false, length, ap, arith}
use Rattle.spec_scan.proofs.CallOperands.{few_bound}
use Rattle.lgx_prog.specs.HandsOver.{hands_over}
use Rattle.lgx_prog.proofs.HandsOver.{no_more}
use Rattle.lgx_prescan.proofs.instruction.prescan_ins.Goals as goal

pub bind-requires-clause-room : goal.bind-requires-clause-room
bind-requires-clause-room c =
    let alone : hands_over c.args.ins.now.op ≡ false = cc in
    omega (arith, few_bound c.args.ins.now.op c.args.ins.now.args (no_more c.args.ins.now.op alone) c.requires.fit, ap length c.args-2.ensures)
