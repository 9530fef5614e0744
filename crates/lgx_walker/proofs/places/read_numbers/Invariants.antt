-- The numbers at the places before.
use Rattle.std.proofs.Common.{◌≡◌, length, map, take}
use Rattle.lgx_num.specs.Image.{number}
use Rattle.spec_machine.specs.State.{State}
use Rattle.lgx_core.specs.Represents.{RepresentsController}
use Rattle.lgx_walker.specs.Places.{AreInside}
use Rattle.lgx_walker.proofs.places.read_numbers.Given as goal

abbrev pub invariant-loop-place : goal.invariant-loop-place
invariant-loop-place l =
    (s : State) → RepresentsController l.controller s → AreInside l.places (length l.controller.parts.image.bytes) → l.values.items ≡ map (number s.image) (take l.place-index l.places)
