use Rattle.lgx_process.proofs.program.process_over_input.Goals as goal

pub returns : goal.returns
returns g c = (c.process_over.new.files.failures, rw c.new-files.ensures at c.process_over.ensures)
