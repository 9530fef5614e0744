use Rattle.std.proofs.Common.{◌≡◌, ◌++◌, map, take}
use Rattle.lgx_picture.specs.declared.lanes.Lane.TheVariants.{Watch}
use Rattle.lgx_picture.proofs.lanes.push_watch_lanes.Given as goal

abbrev pub invariant-loop-place : goal.invariant-loop-place
invariant-loop-place l = l.lanes.items ≡ l.initial.lanes.items ++ map Watch (take l.place-index l.places)
