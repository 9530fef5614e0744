use Rattle.std.proofs.Common.{◌≡◌, ◌+◌, ◌∙◌, ap, subst, arith}
use Rattle.lgx_image.specs.Grains.{ImageView, HitsAfter, HitsWritten}
use Rattle.lgx_image.proofs.Words.{grains_of_view}
use Rattle.lgx_image.proofs.WatchedWords.{first_beside, next_beside, next_byte}
use Rattle.lgx_image.proofs.image.Image.store_bytes.Goals as goal

pub returns-clause-hits : goal.returns-clause-hits
returns-clause-hits c =
    let at = c.args.byte in
    let i0 = c.args.self.now in
    let i1 = c.store_byte.new.self in
    let i2 = c.store_byte-2.new.self in
    let i3 = c.store_byte-3.new.self in
    let i4 = c.store_byte-4.new.self in
    let h1 : HitsWritten i0 i1 = subst (λ (i : ImageView). HitsAfter i.watched i.hits i1.hits i.bytes i1.bytes) c.self.view_is c.store_byte.ensures.hits in
    let w1 : i1.watched ≡ i0.watched = c.store_byte.ensures.watched ∙ ap (λ (i : ImageView). i.watched) c.self.view_is in
    let e1 = first_beside _ i0 i1 at _ c.self.view_is c.store_byte.ensures.bytes in
    let h2 = next_byte i0 i1 i2 at 1 (at + 1) _ (omega arith) w1 e1 c.store_byte-2.ensures.bytes h1 c.store_byte-2.ensures.hits in
    let w2 : i2.watched ≡ i0.watched = c.store_byte-2.ensures.watched ∙ w1 in
    let e2 = next_beside i0 i1 i2 at 1 (at + 1) _ (omega arith) e1 c.store_byte-2.ensures.bytes in
    let h3 = next_byte i0 i2 i3 at 2 (at + 2) _ (omega arith) w2 e2 c.store_byte-3.ensures.bytes h2 c.store_byte-3.ensures.hits in
    let w3 : i3.watched ≡ i0.watched = c.store_byte-3.ensures.watched ∙ w2 in
    let e3 = next_beside i0 i2 i3 at 2 (at + 2) _ (omega arith) e2 c.store_byte-3.ensures.bytes in
    next_byte i0 i3 i4 at 3 (at + 3) _ (omega arith) w3 e3 c.store_byte-4.ensures.bytes h3 c.store_byte-4.ensures.hits

pub returns-clause-grains : goal.returns-clause-grains
returns-clause-grains c = grains_of_view c.self.inside.bytes.items c.self.inside.marks c.self.inside.hits.watched c.self.inside.hits.hits c.args.self.now c.self.view_is
