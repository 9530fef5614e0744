use Rattle.std.proofs.Common.{◌∙◌, ap, sym, subst, arith}
use Rattle.lgx_image.specs.Grains.{is_marked, NextMarked}
use Rattle.lgx_image.specs.Words.{HitsView, NextBit}
use Rattle.lgx_image.proofs.WatchedWords.{next_mark_between, none_from}
use Rattle.lgx_image.proofs.hits.Hits.next.Goals as goal

pub returns-then-from-self : goal.returns-then-from-self
returns-then-from-self c = λ word above.
    ap (λ (v : HitsView). is_marked v.hits word) (sym c.self.view_is) ∙ none_from c.self.inside.hits.value c.self.inside.first c.self.inside.end word c.self.invariant (omega arith)

pub returns : goal.returns
returns c =
    subst (λ (v : HitsView). NextMarked v.hits c.args.from c.next_bit.result) c.self.view_is
    (next_mark_between c.self.inside.hits.value c.self.inside.first c.self.inside.end c.args.from c.next_bit.result c.self.invariant
    (subst (λ n. NextBit c.self.inside.hits.value n c.next_bit.result) c.max.ensures (rw c.deref.ensures at c.next_bit.ensures)))
