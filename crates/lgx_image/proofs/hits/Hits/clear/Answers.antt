use Rattle.std.proofs.Common.{◌∙◌, ap, sym, arith}
use Rattle.lgx_image.specs.declared.hits.TheConstants.{MAX_WORDS}
use Rattle.lgx_image.specs.Grains.{is_marked}
use Rattle.lgx_image.specs.Words.{HitsView}
use Rattle.lgx_image.proofs.WatchedWords.{none_between, none_from, marks_of-off, cleared_before, cleared_all}
use Rattle.lgx_image.proofs.hits.Hits.clear.Goals as goal

pub returns-then-self-eq0-clause-hits : goal.returns-then-self-eq0-clause-hits
returns-then-self-eq0-clause-hits c = λ word.
    ap (λ (v : HitsView). is_marked v.hits word) (sym c.self.view_is) ∙ none_from c.self.inside.hits.value c.self.inside.first c.self.inside.end word c.self.invariant (omega arith)

pub clear_words-requires-clause-before : goal.clear_words-requires-clause-before
clear_words-requires-clause-before c = rw c.deref_mut.ensures.value (cleared_before c.self.inside.hits.value c.self.inside.first c.self.inside.end c.self.invariant)

pub invariant_of-self : goal.invariant_of-self
invariant_of-self c = none_between _ _ (cleared_all c.self.inside.hits.value c.clear_words.new.words c.self.inside.first c.self.inside.end c.self.invariant (omega arith) (rw c.deref_mut.ensures.value at c.clear_words.ensures))

pub returns-clause-hits : goal.returns-clause-hits
returns-clause-hits c = λ word. marks_of-off c.clear_words.new.words MAX_WORDS word (cleared_all c.self.inside.hits.value c.clear_words.new.words c.self.inside.first c.self.inside.end c.self.invariant (omega arith) (rw c.deref_mut.ensures.value at c.clear_words.ensures) word)
