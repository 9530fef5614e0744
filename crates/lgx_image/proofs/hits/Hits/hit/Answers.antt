use Rattle.std.proofs.Common.{inl, inr, ◌∙◌, ap, arith}
use Rattle.lgx_image.specs.declared.hits.TheConstants.{MAX_WORDS}
use Rattle.lgx_image.specs.Grains.{is_marked}
use Rattle.lgx_image.specs.Words.{HitsView}
use Rattle.lgx_image.proofs.Words.{marks_of-at}
use Rattle.lgx_image.proofs.WatchedWords.{marks_of-same, one_more_between}
use Rattle.lgx_image.proofs.hits.Hits.hit.Goals.{then-self-eq0, else-self-eq0}
use Rattle.lgx_image.proofs.hits.Hits.hit.Goals as goal

pub invariant_of-self : goal.invariant_of-self
invariant_of-self c =
    one_more_between c.self.inside.hits.value c.set_bit.new.words c.self.inside.first c.self.inside.end _ _ c.args.word c.self.invariant c.requires c.set_bit.ensures.set (rw c.deref_mut.ensures.value at c.set_bit.ensures.others)
    (elim c.if-self-eq0.branch [
      | then-self-eq0 w ↦ inl (omega arith, w.self-is)
      | else-self-eq0 w ↦ inr (omega arith, w.self-is ∙ w.min-self-inside.ensures)
    ])
    c.max-self-inside.ensures

pub returns-clause-its : goal.returns-clause-its
returns-clause-its c = marks_of-at c.set_bit.new.words MAX_WORDS c.args.word c.requires ∙ c.set_bit.ensures.set

pub returns-clause-others : goal.returns-clause-others
returns-clause-others c = λ other apart.
    marks_of-same c.self.inside.hits.value c.set_bit.new.words MAX_WORDS other ((rw c.deref_mut.ensures.value at c.set_bit.ensures.others) other apart)
    ∙ ap (λ (v : HitsView). is_marked v.hits other) c.self.view_is
