use Rattle.std.proofs.Common.{◌≡◌, ◌&&◌}
use Rattle.std.specs.Prelude.{slice_index_or}
use Rattle.std.specs.Bool.{beq as agree}
use Rattle.spec_tables.specs.Tasks.{no_task}
use Rattle.spec_laws.specs.TickReleases.{is_due, mask_below}
use Rattle.lgx_audit.specs.Along.{no_count}
use Rattle.lgx_laws.proofs.ticks.mask_due.Given as goal

abbrev pub invariant-loop-t : goal.invariant-loop-t
invariant-loop-t l = l.mask ≡ mask_below (λ t. is_due (slice_index_or l.tasks t no_task) l.run && agree (slice_index_or l.counts t no_count).up l.up) l.t
