use Rattle.std.proofs.Common.{◌<◌, ◌≤◌, None, ap, length, arith}
use Rattle.lgx_image.specs.Grains.{ImageView, NextMarked, grains_in}
use Rattle.lgx_image.proofs.Words.{next_marked_none, next_marked_some, next_marked_past, grains_in-is}
use Rattle.lgx_image.proofs.image.Image.next_marked.Goals as goal

pub returns-in_err-next : goal.returns-in_err-next
returns-in_err-next c =
    let none : NextMarked c.args.self.now.marks c.args.from None = next_marked_none c.self.inside.bytes.items c.self.inside.marks c.self.inside.hits.watched c.self.inside.hits.hits c.args.self.now c.args.from c.self.view_is c.in_err-next.ensures in
    rw c.from_residual.ensures none

pub returns-then-next-div_ceil : goal.returns-then-next-div_ceil
returns-then-next-div_ceil c =
    let len = ap (λ (i : ImageView). length i.bytes) c.self.view_is in
    let within : c.in_ok-next.next < grains_in (length c.self.inside.bytes.items) = omega (arith, len, grains_in-is (length c.self.inside.bytes.items), c.len.ensures.value, c.div_ceil.ensures, c.if-next-div_ceil.true) in
    next_marked_some c.self.inside.bytes.items c.self.inside.marks c.self.inside.hits.watched c.self.inside.hits.hits c.args.self.now c.args.from c.in_ok-next.next c.self.view_is within c.in_ok-next.ensures

pub returns-else-next-div_ceil : goal.returns-else-next-div_ceil
returns-else-next-div_ceil c =
    let len = ap (λ (i : ImageView). length i.bytes) c.self.view_is in
    let within : grains_in (length c.self.inside.bytes.items) ≤ c.in_ok-next.next = omega (arith, len, grains_in-is (length c.self.inside.bytes.items), c.len.ensures.value, c.div_ceil.ensures, c.if-next-div_ceil.false) in
    next_marked_past c.self.inside.bytes.items c.self.inside.marks c.self.inside.hits.watched c.self.inside.hits.hits c.args.self.now c.args.from c.in_ok-next.next c.self.view_is within c.in_ok-next.ensures
