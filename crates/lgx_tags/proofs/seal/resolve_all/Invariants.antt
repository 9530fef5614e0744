use Rattle.std.proofs.Common.{◌≡◌}
use Rattle.lgx_tags.specs.Chains.{open_in, PartlyResolved}
use Rattle.lgx_tags.proofs.seal.resolve_all.Given as goal

abbrev pub invariant-loop-known : goal.invariant-loop-known
invariant-loop-known l = PartlyResolved l.declared l.known.items × (l.open ≡ open_in l.known.items)

abbrev pub decreases-loop-known : goal.decreases-loop-known
decreases-loop-known l = l.open
