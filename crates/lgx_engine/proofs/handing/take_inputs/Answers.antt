use Rattle.spec_scan.proofs.CallOperands.{entry_operands}
use Rattle.lgx_engine.proofs.handing.take_inputs.Goals as goal

pub places_of-requires-clause-cells : goal.places_of-requires-clause-cells
places_of-requires-clause-cells c = (entry_operands c.args.args.now c.requires.fit).1
