use Rattle.std.proofs.Common.{◌≡◌, take}
use Rattle.spec_machine.specs.State.{State}
use Rattle.lgx_core.specs.Represents.{RepresentsController}
use Rattle.lgx_record.specs.Changes.{numbers_at}
use Rattle.lgx_record.proofs.changes.numbers_at.Given as goal

abbrev pub invariant-loop-place : goal.invariant-loop-place
invariant-loop-place l = (s : State) → RepresentsController l.controller s → l.numbers.items ≡ numbers_at s.image (take l.place-index l.places)
