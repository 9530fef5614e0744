use Rattle.lgx_image.proofs.Words.{cleared_view}
use Rattle.lgx_image.proofs.image.Image.clear_marks.Goals as goal

pub returns : goal.returns
returns c = cleared_view c.self.inside.bytes.items c.self.inside.marks c.clear.new.self c.self.inside.hits.watched c.self.inside.hits.hits c.args.self.now c.self.view_is c.clear.ensures
