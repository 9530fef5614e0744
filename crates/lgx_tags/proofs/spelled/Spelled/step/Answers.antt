use Rattle.lgx_tags.proofs.ReadingBounds.{within, at_within, has_size, all_sized}
use Rattle.lgx_tags.proofs.spelled.Spelled.step.Goals as goal

pub enter_member-requires : goal.enter_member-requires
enter_member-requires g c = at_within c.args.types.now (g.N.Names.bytes c.args.names.now) c.args.self.found c.requires.room c.requires.placed.found

pub index_element-requires-clause-size : goal.index_element-requires-clause-size
index_element-requires-clause-size g c = has_size c.args.types.now (g.N.Names.bytes c.args.names.now) c.args.self.found c.requires.placed.found.lies

pub index_element-requires-clause-room : goal.index_element-requires-clause-room
index_element-requires-clause-room g c = within c.args.types.now (g.N.Names.bytes c.args.names.now) c.args.self.found c.requires.room c.requires.placed.found

pub close_bracket-requires : goal.close_bracket-requires
close_bracket-requires g c = all_sized c.args.types.now (g.N.Names.bytes c.args.names.now) c.args.self.arrays c.requires.placed.arrays
