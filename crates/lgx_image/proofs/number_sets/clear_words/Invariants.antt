use Rattle.lgx_image.specs.Words.{Cleared}
use Rattle.lgx_image.proofs.number_sets.clear_words.Given as goal

abbrev pub invariant-loop-word : goal.invariant-loop-word
invariant-loop-word l = Cleared l.initial.words l.words l.word
