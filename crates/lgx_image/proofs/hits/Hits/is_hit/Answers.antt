use Rattle.std.proofs.Common.{◌≡◌, ◌∙◌, ap, sym, arith}
use Rattle.std.proofs.lemmas.Bool.{ltb-true}
use Rattle.lgx_image.specs.Grains.{is_marked}
use Rattle.lgx_image.specs.Words.{HitsView}
use Rattle.lgx_image.proofs.WatchedWords.{marks_between, none_from}
use Rattle.lgx_image.proofs.hits.Hits.is_hit.Goals as goal

pub returns-clause-some : goal.returns-clause-some
returns-clause-some c = λ is.
    let first = c.self.inside.first in
    (first, ap (λ (v : HitsView). is_marked v.hits first) (sym c.self.view_is) ∙ marks_between c.self.inside.hits.value first c.self.inside.end first c.self.invariant ∙ c.self.invariant.some (ltb-true 0 c.self.inside.end is))

pub returns-clause-none : goal.returns-clause-none
returns-clause-none c = λ is word.
    let none : c.self.inside.end ≡ 0 = grind arith in
    ap (λ (v : HitsView). is_marked v.hits word) (sym c.self.view_is) ∙ none_from c.self.inside.hits.value c.self.inside.first c.self.inside.end word c.self.invariant (omega (arith, none))
