use Rattle.std.proofs.Common.{◌∙◌, ap}
use Rattle.std.specs.Prelude.{nat_eq}
use Rattle.spec_tables.specs.Tasks.{is_continuous}
use Rattle.lgx_laws.proofs.StartsAt.{same_mask}
use Rattle.lgx_laws.proofs.starts.is_run_mask.Goals as goal

pub returns : goal.returns
returns c cs ns past e shown = ap (λ n. nat_eq c.args.mask n) (c.run_mask.ensures ∙ same_mask is_continuous c.args.tasks.now c.args.counts.now cs ns e shown c.requires.many)
