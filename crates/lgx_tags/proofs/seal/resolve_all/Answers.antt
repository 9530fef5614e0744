use Rattle.std.proofs.Common.{◌≡◌, ◌∙◌, ap, sym}
use Rattle.lgx_tags.specs.Chains.{open_in}
use Rattle.lgx_tags.proofs.ResolvePasses.{pass_resolves_all}
use Rattle.lgx_tags.proofs.seal.resolve_all.Goals as goal

pub returns-then-left-open : goal.returns-then-left-open
returns-then-left-open c =
    let same : open_in c.resolve_pass.new.known.items ≡ open_in c.loop-known.known.items = ap open_in (sym c.as_slice-in-loop-known.ensures.value) ∙ sym c.open_in-left.ensures ∙ c.if-left-open.true ∙ c.loop-known.invariant.1 in
    record { all_resolved = pass_resolves_all c.args.declared.now c.loop-known.known.items c.resolve_pass.new.known.items c.in_ok-resolve_pass.ensures.resolves same }
