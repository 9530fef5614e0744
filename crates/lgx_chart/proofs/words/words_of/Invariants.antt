use Rattle.std.proofs.Common.{◌≡◌, ◌++◌, length, map}
use Rattle.spec_base.specs.Pieces.{pieces}
use Rattle.lgx_chart.proofs.words.words_of.Given as goal

abbrev pub invariant-loop-word : goal.invariant-loop-word
invariant-loop-word l = map (λ w. w.now) l.words.items ++ pieces 32 l.rest ≡ pieces 32 l.line

abbrev pub decreases-loop-word : goal.decreases-loop-word
decreases-loop-word l = length l.rest
