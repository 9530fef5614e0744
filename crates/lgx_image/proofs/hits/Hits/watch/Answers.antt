use Rattle.std.proofs.Common.{◌∙◌, ap, true, set}
use Rattle.lgx_image.specs.declared.hits.TheConstants.{MAX_WORDS}
use Rattle.lgx_image.specs.Words.{HitsView}
use Rattle.lgx_image.proofs.WatchedWords.{marks_of-set}
use Rattle.lgx_image.proofs.Words.{marks_of-at}
use Rattle.lgx_image.proofs.hits.Hits.watch.Goals as goal

pub returns-clause-watched : goal.returns-clause-watched
returns-clause-watched c =
    marks_of-set c.self.inside.watched.value c.set_bit.new.words MAX_WORDS c.args.word c.requires c.set_bit.ensures.set (rw c.deref_mut.ensures.value at c.set_bit.ensures.others)
    ∙ ap (λ (v : HitsView). set v.watched c.args.word true) c.self.view_is

pub returns-clause-its : goal.returns-clause-its
returns-clause-its c = marks_of-at c.set_bit.new.words MAX_WORDS c.args.word c.requires ∙ c.set_bit.ensures.set
