use Rattle.std.proofs.Common.{arith, ◌≡◌, ◌∙◌, ap, length, List, ◌++◌, ◌∷◌, [], map, take}
use Rattle.spec_language.specs.declared.types.Member.{Member}
use Rattle.lgx_types.proofs.Placed.{ends_small, placed_by, all_next, all_end}
use Rattle.lgx_types.proofs.table.all_places.Goals as goal

pub places-requires : goal.places-requires
places-requires c = rw c.types_at.ensures.value (ends_small c.args.resolved.now c.args.bytes.now c.loop-i.i c.requires.sized c.requires.small c.requires.sound)

pub loop-i-preserved : goal.loop-i-preserved
loop-i-preserved c =
    let n : length c.decls-count.result.now ≡ length c.args.resolved.now = ap length c.decls-count.ensures.value in
    let before : List (List Member) = map (placed_by c.args.bytes.now c.args.resolved.now) (take c.loop-i.i c.args.resolved.now) in
    c.in_ok-push.ensures.items ∙ ap (λ (l : List (List Member)). l ++ c.in_ok-places.field-0 ∷ []) c.loop-i.invariant ∙ ap (λ (p : List Member). before ++ p ∷ []) (rw c.types_at.ensures.value at c.in_ok-places.ensures) ∙ all_next c.args.bytes.now c.args.resolved.now c.loop-i.i (omega (arith, n, c.loop-i-test.true))

pub returns : goal.returns
returns c =
    let n : length c.decls-count.result.now ≡ length c.args.resolved.now = ap length c.decls-count.ensures.value in
    c.loop-i.invariant ∙ all_end c.args.bytes.now c.args.resolved.now c.loop-i.i (omega (arith, n, c.loop-i-test.false)) c.requires.sized
