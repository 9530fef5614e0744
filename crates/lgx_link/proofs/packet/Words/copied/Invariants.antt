-- The copy so far is the first of the words.
use Rattle.std.proofs.Common.{◌≡◌, take}
use Rattle.lgx_link.proofs.packet.Words.copied.Given as goal

abbrev pub invariant-loop-word : goal.invariant-loop-word
invariant-loop-word l = l.copy ≡ take l.word-index l.word-items
