use Rattle.std.proofs.Common.{subst}
use Rattle.spec_language.specs.ResolutionLaws.{Sound}
use Rattle.lgx_tags.proofs.table.TagTable.types.Goals as goal

pub returns-clause-sound : goal.returns-clause-sound
returns-clause-sound c = subst Sound c.declared.ensures c.types.ensures.sound
