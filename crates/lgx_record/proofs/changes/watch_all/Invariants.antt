use Rattle.std.proofs.Common.{◌≡◌, take}
use Rattle.spec_machine.specs.State.{State}
use Rattle.lgx_core.specs.Represents.{RepresentsController}
use Rattle.lgx_record.specs.Changes.{AreWatched}
use Rattle.lgx_record.proofs.changes.watch_all.Given as goal

abbrev pub invariant-loop-place : goal.invariant-loop-place
invariant-loop-place l = record {
  represents : (s : State) → RepresentsController l.initial.controller s → RepresentsController l.controller s;
  spent : l.controller.spent ≡ l.initial.controller.spent;
  bytes : l.controller.parts.image.bytes ≡ l.initial.controller.parts.image.bytes;
  watched : AreWatched (take l.place-index l.places) l.controller.parts.image.watched;
}
