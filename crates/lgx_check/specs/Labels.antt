-- Labels and their places.
use Rattle.std.specs.Prelude.{ℕ, ◌+◌, Bool, false, not, ◌&&◌, ◌==◌, List, filter_map, Option, Some, None}
use Rattle.std.specs.List.{enumerate_from}
use Rattle.lgx_rung.specs.Tree.{SourceIns}
use Rattle.spec_language.specs.Checked.{Label}
use Rattle.spec_language.specs.Checked as checking
use Rattle.lgx_check.specs.declared.label.LabelPlace.{LabelPlace}

abbrev pub label_at : List ℕ → LabelPlace → Label
label_at name place = record { name = name; rung = place.rung; ins = place.ins }

abbrev pub label_place : Label → LabelPlace
label_place l = record { rung = l.rung; ins = l.ins }

-- the place n instructions later
abbrev pub place_after : ℕ → LabelPlace → LabelPlace
place_after n place = record { rung = place.rung; ins = place.ins + n }

-- the labels of instructions of which the first is here
abbrev pub labels_from : LabelPlace → List SourceIns → List Label
labels_from place is = filter_map (checking.label_at place.rung) (enumerate_from place.ins is)

-- whether a label that was found is elsewhere
abbrev pub elsewhere : checking.Spot → Option LabelPlace → Bool
elsewhere spot None = false
elsewhere spot (Some p) = not (p.rung == spot.rung && p.ins == spot.ins)
