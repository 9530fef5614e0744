use Rattle.std.proofs.Common.{◌≡◌, ◌++◌}
use Rattle.std.specs.List.{flat_map}
use Rattle.lgx_picture.specs.Svg.{multiples, grid_line_after}
use Rattle.lgx_picture.proofs.svg.push_grid_by.Given as goal

abbrev pub invariant-loop-number : goal.invariant-loop-number
invariant-loop-number l =
    l.text.items ≡ l.initial.text.items ++ flat_map (grid_line_after l.scale l.bottom l.first) (multiples l.spacing l.number)
