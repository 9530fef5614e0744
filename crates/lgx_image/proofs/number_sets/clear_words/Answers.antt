use Rattle.std.proofs.Common.{◌≡◌, ◌+◌, subst, set, arith}
use Rattle.lgx_image.specs.Words.{Cleared}
use Rattle.lgx_image.proofs.WatchedWords.{cleared_more}
use Rattle.lgx_image.proofs.number_sets.clear_words.Goals as goal

pub loop-word-preserved : goal.loop-word-preserved
loop-word-preserved c = cleared_more c.args.words.now c.loop-word.words c.loop-word.word (let same = c.loop-word.invariant.len in omega (arith, same, c.requires.room)) c.loop-word.invariant

pub returns-then-end-from-eq1 : goal.returns-then-end-from-eq1
returns-then-end-from-eq1 c =
    let next : c.args.from + 1 ≡ c.args.end = (let one = c.if-end-from-eq1.true in omega arith) in
    subst (Cleared c.args.words.now (set c.args.words.now c.args.from 0)) next
    (cleared_more c.args.words.now c.args.words.now c.args.from (omega (arith, c.requires.room)) c.requires.before)
