use Rattle.std.proofs.Common.{◌≡◌, ℕ, length}
use Rattle.std.specs.Prelude.{fold}
use Rattle.std.specs.List.{range_with_len}
use Rattle.spec_machine.specs.State.{State}
use Rattle.spec_machine.specs.Ticks.{release_if_due, quiet}
use Rattle.lgx_steps.specs.Represents.{RepresentsParts, IsLive}
use Rattle.lgx_steps.specs.Gives.{Gives, IsBelow}
use Rattle.lgx_steps.proofs.parts.ControllerParts.release_due.Given as goal

abbrev pub invariant-loop-t : goal.invariant-loop-t
invariant-loop-t l = record {
  live : IsLive l.self;
  tasks : length l.self.table.defs ≡ length l.fn.self.table.defs;
  below : IsBelow l.t l.report;
  gives : (n : ℕ) (s : State) → RepresentsParts n l.fn.self s → Gives n l.self l.report (fold release_if_due (record { state = s; answer = quiet }) (range_with_len 0 l.t));
  image : l.self.image ≡ l.fn.self.image;
}
