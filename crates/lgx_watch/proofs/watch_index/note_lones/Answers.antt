use Rattle.std.proofs.Common.{◌∙◌, arith}
use Rattle.std.proofs.lemmas.List.{length-set}
use Rattle.lgx_watch.proofs.Rows.{alone-noted}
use Rattle.lgx_watch.proofs.watch_index.note_lones.Goals as goal

pub loop-word-preserved : goal.loop-word-preserved
loop-word-preserved c =
    let before = c.loop-word.invariant in
    let rows = c.args.rows.now in
    let word = c.loop-word.word in
    let room = c.requires.room in
    let same = c.requires.same in
    let len = before.len in
    record {
      lone = alone-noted rows c.loop-word.lones word c.lone_in.result (omega arith) c.lone_in.ensures before.lone;
      len = length-set c.loop-word.lones word c.lone_in.result ∙ len;
    }
