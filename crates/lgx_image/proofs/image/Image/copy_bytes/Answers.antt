use Rattle.std.proofs.Common.{arith}
use Rattle.std.proofs.lemmas.Grind.{common_steps}
use Rattle.lgx_num.specs.Image.{piece, splice}
use Rattle.lgx_image.proofs.Words.{grains_of_view}
use Rattle.lgx_image.proofs.WatchedWords.{written_hits}
use Rattle.lgx_image.proofs.image.Image.copy_bytes.Goals as goal

pub returns-clause-grains : goal.returns-clause-grains
returns-clause-grains c = grains_of_view c.self.inside.bytes.items c.self.inside.marks c.self.inside.hits.watched c.self.inside.hits.hits c.args.self.now c.self.view_is

pub returns-clause-hits : goal.returns-clause-hits
returns-clause-hits c =
    written_hits _ c.args.self.now c.note_copy.new.self.hits c.deref.result.now (splice c.deref.result.now c.args.target (piece c.deref.result.now c.args.source c.args.size)) _ c.self.view_is c.deref.ensures.value c.note_copy.ensures.hits (grind (arith, common_steps))
