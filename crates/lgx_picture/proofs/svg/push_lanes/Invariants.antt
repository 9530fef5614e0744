use Rattle.std.proofs.Common.{◌≡◌, ◌++◌, drop}
use Rattle.lgx_picture.specs.Svg.{lanes_from}
use Rattle.lgx_picture.proofs.svg.push_lanes.Given as goal

abbrev pub invariant-loop-number : goal.invariant-loop-number
invariant-loop-number l =
    l.text.items ++ lanes_from l.scale l.entries l.number (drop l.number l.lanes) ≡ l.initial.text.items ++ lanes_from l.scale l.entries 0 l.lanes
