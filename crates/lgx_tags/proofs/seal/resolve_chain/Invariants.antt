use Rattle.lgx_tags.specs.Chains.{PartlyResolved}
use Rattle.lgx_tags.proofs.seal.resolve_chain.Given as goal

abbrev pub invariant-loop-k : goal.invariant-loop-k
invariant-loop-k l = PartlyResolved l.declared l.known.items
