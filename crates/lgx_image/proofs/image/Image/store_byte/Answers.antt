use Rattle.std.proofs.Common.{length, ap, arith}
use Rattle.lgx_image.specs.Grains.{ImageView}
use Rattle.lgx_image.proofs.WatchedWords.{word_below}
use Rattle.lgx_image.proofs.image.Image.store_byte.Goals as goal

pub note-requires : goal.note-requires
note-requires c =
    let len = ap (λ (i : ImageView). length i.bytes) c.self.view_is in
    rw c.word_of.ensures (word_below c.args.at (length c.self.inside.bytes.items) (omega (arith, len, c.requires)) c.self.invariant)
