use Rattle.std.proofs.Common.{◌∙◌, sym, subst}
use Rattle.lgx_image.specs.Words.{HitsView, IsNoted}
use Rattle.lgx_image.proofs.WatchedWords.{noted_hit, noted_not}
use Rattle.lgx_image.proofs.hits.Hits.note.Goals as goal

pub returns-then-has_bit-clause-hits : goal.returns-then-has_bit-clause-hits
returns-then-has_bit-clause-hits c =
    subst (λ (v : HitsView). IsNoted v.watched c.args.self.now.hits c.hit.new.self.hits c.args.word) c.self.view_is
    (noted_hit c.self.inside.watched.value c.args.self.now.hits c.hit.new.self.hits c.args.word c.requires (sym (rw c.deref.ensures at c.has_bit.ensures) ∙ c.if-has_bit.true) c.hit.ensures.its c.hit.ensures.others)

pub returns-else-has_bit-clause-hits : goal.returns-else-has_bit-clause-hits
returns-else-has_bit-clause-hits c =
    subst (λ (v : HitsView). IsNoted v.watched c.args.self.now.hits c.args.self.now.hits c.args.word) c.self.view_is
    (noted_not c.self.inside.watched.value c.args.self.now.hits c.args.word (sym (rw c.deref.ensures at c.has_bit.ensures) ∙ c.if-has_bit.false))
