-- How far a run reaches, counted from its first mark.
use Rattle.std.specs.Prelude.{ℕ, ◌+◌, List, [], ◌∷◌, nat_le, if◌then◌else◌}
use Rattle.lgx_picture.specs.declared.marks.Mark.{Mark}
use Rattle.lgx_picture.specs.declared.sizes.TheConstants.{GAP}

-- how many of these marks are close to the one before, one after another; the first to a place
abbrev pub close_after : ℕ → List Mark → ℕ
close_after place [] = 0
close_after place (m ∷ ms) = if nat_le m.x (place + GAP) then close_after m.x ms + 1 else 0

abbrev pub first_run : List Mark → ℕ
first_run [] = 0
first_run (m ∷ ms) = close_after m.x ms + 1
