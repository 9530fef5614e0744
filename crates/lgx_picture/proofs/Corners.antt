-- Step lines.
use Rattle.std.proofs.Common.{◌≡◌, ◌<◌, List, [], ◌∷◌, ◌++◌, length, get_or, drop, codes, None, refl, arith}
use Rattle.std.specs.List.{flat_map}
use Rattle.lgx_picture.specs.declared.marks.Mark.{Mark}
use Rattle.lgx_picture.specs.declared.scale.Scale.{Scale}
use Rattle.lgx_picture.specs.declared.values.Band.{Band}
use Rattle.lgx_picture.specs.Shapes.{line_from, across_to}
use Rattle.lgx_picture.specs.Marks.{right_of, y_of, corner, step_line}

pub step_line_parts : (scale : Scale) (band : Band) (d : Mark) (ms : List Mark) → 0 < length ms
    → step_line scale band None ms ≡ line_from (codes "value") (get_or ms 0 d).x (y_of band (get_or ms 0 d).level) ++ flat_map (corner band) (drop 1 ms) ++ across_to (right_of scale)
step_line_parts scale band d [] h = absurd (omega arith)
step_line_parts scale band d (m ∷ ms) h = refl
