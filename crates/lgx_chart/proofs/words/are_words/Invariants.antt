use Rattle.std.proofs.Common.{◌≡◌, map, drop}
use Rattle.lgx_chart.specs.Words.{are_words}
use Rattle.lgx_chart.proofs.words.are_words.Given as goal

abbrev pub invariant-loop-text : goal.invariant-loop-text
invariant-loop-text l = are_words (map (λ w. w.now) (drop l.text-index l.texts)) ≡ are_words (map (λ w. w.now) l.texts)
