use Rattle.std.proofs.Common.{◌≡◌, drop}
use Rattle.std.specs.List.{position_from, zip}
use Rattle.lgx_sched.specs.TableView.{has_run_out}
use Rattle.lgx_sched.proofs.expiry.first_expired.Given as goal

abbrev pub invariant-loop-t : goal.invariant-loop-t
invariant-loop-t l = position_from (λ p. has_run_out l.now p.0 p.1) l.t (drop l.t (zip l.defs l.ups)) ≡ position_from (λ p. has_run_out l.now p.0 p.1) 0 (zip l.defs l.ups)
