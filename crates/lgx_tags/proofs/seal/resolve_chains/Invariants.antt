use Rattle.std.proofs.Common.{◌≡◌, length}
use Rattle.lgx_tags.specs.Chains.{PartlyResolved}
use Rattle.lgx_tags.proofs.seal.resolve_chains.Given as goal

abbrev pub invariant-loop-i : goal.invariant-loop-i
invariant-loop-i l = PartlyResolved l.declared l.known.items × (length l.met.items ≡ length l.declared.entries)
