use Rattle.std.proofs.Common.{◌≡◌}
use Rattle.spec_tables.specs.Tasks.{is_continuous}
use Rattle.spec_laws.specs.TickReleases.{mask_below}
use Rattle.lgx_laws.proofs.StartsAt.{comes}
use Rattle.lgx_laws.proofs.starts.run_mask.Given as goal

abbrev pub invariant-loop-t : goal.invariant-loop-t
invariant-loop-t l = l.mask ≡ mask_below (comes is_continuous l.tasks l.counts) l.t
