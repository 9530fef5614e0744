use Rattle.lgx_types.proofs.Placed.{sound_of}
use Rattle.lgx_types.proofs.table.laid_out.Goals as goal

pub all_places-requires-clause-sound : goal.all_places-requires-clause-sound
all_places-requires-clause-sound c = sound_of c.args.resolved.now c.requires.members c.in_ok-sizes.ensures.faultless
