use Rattle.lgx_image.proofs.Words.{grains_of_view}
use Rattle.lgx_image.proofs.image.Image.store.Goals as goal

pub returns-in-Sint-clause-grains : goal.returns-in-Sint-clause-grains
returns-in-Sint-clause-grains c = grains_of_view c.self.inside.bytes.items c.self.inside.marks c.self.inside.hits.watched c.self.inside.hits.hits c.args.self.now c.self.view_is

pub returns-in-Int-clause-grains : goal.returns-in-Int-clause-grains
returns-in-Int-clause-grains c = grains_of_view c.self-in-Int.inside.bytes.items c.self-in-Int.inside.marks c.self-in-Int.inside.hits.watched c.self-in-Int.inside.hits.hits c.args.self.now c.self-in-Int.view_is
