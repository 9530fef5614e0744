use Rattle.std.proofs.Common.{◌∙◌}
use Rattle.lgx_declare.proofs.Taken.{any_named}
use Rattle.lgx_declare.proofs.names.has_main.Goals as goal

pub returns : goal.returns
returns c = rw (← c.as_slice.ensures) (c.is_routine.ensures ∙ any_named (λ r. r.name) c.args.program.now.main c.as_slice.result.now)
