use Rattle.std.proofs.Common.{◌≡◌, drop}
use Rattle.std.specs.List.{find}
use Rattle.lgx_picture.specs.Svg.{reaches}
use Rattle.lgx_picture.proofs.svg.first_reaching.Given as goal

abbrev pub invariant-loop-spacing : goal.invariant-loop-spacing
invariant-loop-spacing l =
    find (reaches l.end) (drop l.spacing-index l.spacings) ≡ find (reaches l.end) l.spacings
