use Rattle.std.proofs.Common.{◌≡◌, ◌<◌, ap, arith, length, subst, sym}
use Rattle.std.specs.List.{AllByRecursion as Each}
use Rattle.lgx_tags.proofs.seal.resolve_chains.Goals as goal

pub loop-i-init : goal.loop-i-init
loop-i-init c =
    let count : length c.entries-count.result.now ≡ length c.args.declared.now.entries = ap length c.entries-count.ensures.value in
    (c.requires.partly, omega (arith, count, c.in_ok-met.ensures.len))

pub loop-i-preserved : goal.loop-i-preserved
loop-i-preserved c = (c.in_ok-resolve_chain.ensures.partly, c.open_chain.ensures.long)

pub open_chain-requires : goal.open_chain-requires
open_chain-requires c =
    let count : length c.entries-count.result.now ≡ length c.args.declared.now.entries = ap length c.entries-count.ensures.value in
    record { within = omega (arith, count, c.loop-i-test.true); long = c.loop-i.invariant.1 }

pub resolve_chain-requires : goal.resolve_chain-requires
resolve_chain-requires c = record {
  partly = c.loop-i.invariant.0;
  within = subst (Each (λ j. j < length c.args.declared.now.entries)) (sym c.as_slice-in-loop-i.ensures.value) c.in_ok-chain.ensures.within;
}

pub returns : goal.returns
returns c = record { partly = c.loop-i.invariant.0 }
