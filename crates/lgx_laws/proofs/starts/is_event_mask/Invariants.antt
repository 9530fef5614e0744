use Rattle.std.proofs.Common.{◌≡◌, ◌^◌, ◌<◌, ◌&&◌, ℕ, false}
use Rattle.std.specs.Prelude.{nat_eq}
use Rattle.spec_machine.specs.ValidProject.{is_event}
use Rattle.lgx_laws.proofs.StartsAt.{comes}
use Rattle.lgx_laws.proofs.starts.is_event_mask.Given as goal

abbrev pub invariant-loop-t : goal.invariant-loop-t
invariant-loop-t l = (k : ℕ) → k < l.t → (nat_eq l.mask (2 ^ k) && comes is_event l.tasks l.counts k) ≡ false
