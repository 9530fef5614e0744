use Rattle.std.proofs.Common.{length}
use Rattle.spec_scan.proofs.BoundKinds.{bound_lie}
use Rattle.spec_scan.proofs.KeptKinds.{args_fit, args_end}
use Rattle.lgx_engine.proofs.row.run_row.Goals as goal

pub execute-requires-clause-fit : goal.execute-requires-clause-fit
execute-requires-clause-fit c = rw c.ins.ensures (args_fit c.args.image.now.bytes c.args.prepared.now.args c.in-Some.bound.now c.args.prepared.now.op (c.in-Some.ensures c.args.image.now.bytes) c.requires.executable.fit)

pub execute-requires-clause-lie : goal.execute-requires-clause-lie
execute-requires-clause-lie c = bound_lie c.args.image.now.bytes c.args.prepared.now.args c.in-Some.bound.now (c.in-Some.ensures c.args.image.now.bytes) c.requires.executable.lie

pub execute-requires-clause-ends : goal.execute-requires-clause-ends
execute-requires-clause-ends c = args_end c.args.image.now.bytes c.args.prepared.now.args c.in-Some.bound.now (length c.args.image.now.bytes) (c.in-Some.ensures c.args.image.now.bytes) c.requires.executable.ends
