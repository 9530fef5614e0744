use Rattle.lgx_types.proofs.Found.{find_is}
use Rattle.lgx_types.proofs.structures.Structures.find.Goals as goal

pub returns : goal.returns
returns c = rw (c.or_structure.ensures, c.built_in.ensures, c.find.ensures.number, c.bytes-text.ensures.bytes, c.self.invariant, ← c.self.view_is) (find_is c.self.inside.decls c.args.name.now)
