use Rattle.std.proofs.Common.{◌∙◌}
use Rattle.lgx_laws.proofs.ModesAt.{holds_shown}
use Rattle.lgx_laws.proofs.modes.holds.Goals as goal

pub returns : goal.returns
returns c cs shown = c.any_open.ensures ∙ holds_shown c.args.counts.now cs shown
