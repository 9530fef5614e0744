use Rattle.std.proofs.Common.{◌≡◌, ℕ}
use Rattle.spec_machine.specs.State.{State}
use Rattle.lgx_steps.specs.Represents.{RepresentsParts, IsLive}
use Rattle.lgx_steps.proofs.Leaving.{left_before}
use Rattle.lgx_steps.proofs.parts.ControllerParts.leave_scans.Given as goal

abbrev pub invariant-loop-t : goal.invariant-loop-t
invariant-loop-t l = record {
  live : IsLive l.self;
  represents : (n : ℕ) (s : State) → RepresentsParts n l.fn.self s → RepresentsParts n l.self (left_before s l.t);
  table : l.self.table ≡ l.fn.self.table;
  tick : l.self.tick ≡ l.fn.self.tick;
  image : l.self.image ≡ l.fn.self.image;
}
