use Rattle.spec_language.proofs.OperandBounds.{checked_lies}
use Rattle.spec_machine.proofs.CheckedExecutable.{checked_ready}
use Rattle.spec_machine.proofs.scan_laws.checked_rungs_are_executable.Goals as goal

pub returns : goal.returns
returns c = checked_ready checked_lies
