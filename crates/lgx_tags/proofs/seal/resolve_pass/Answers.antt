use Rattle.std.proofs.Common.{◌≡◌, ◌≤◌, ap, arith, length, refl}
use Rattle.lgx_tags.specs.Chains.{open_in}
use Rattle.lgx_tags.proofs.ResolvePasses.{resolve_more}
use Rattle.lgx_tags.proofs.seal.resolve_pass.Goals as goal

pub loop-i-preserved : goal.loop-i-preserved
loop-i-preserved c =
    let fewer : open_in c.resolve_entry.new.known.items ≤ open_in c.args.known.now.items = omega (arith, c.in_ok-resolve_entry.ensures.resolves.fewer, c.loop-i.invariant.1) in
    (c.in_ok-resolve_entry.ensures.resolves.partly, fewer, resolve_more c.args.declared.now c.args.known.now.items c.loop-i.known.items c.resolve_entry.new.known.items c.loop-i.i c.loop-i.invariant.1 c.loop-i.invariant.2 c.in_ok-resolve_entry.ensures.resolves)

pub loop-i-init : goal.loop-i-init
loop-i-init c = (c.requires.partly, omega arith, λ same. (refl, λ j h. absurd (omega (arith, h))))

pub returns : goal.returns
returns c =
    let count : length c.entries-i-end.result.now ≡ length c.args.declared.now.entries = ap length c.entries-i-end.ensures.value in
    record {
      resolves = record {
        partly = c.loop-i.invariant.0;
        fewer = c.loop-i.invariant.1;
        stuck = λ same. ((c.loop-i.invariant.2 same).0, λ j h. (c.loop-i.invariant.2 same).1 j (omega (arith, h, count, c.loop-i-test.false)));
      };
    }
