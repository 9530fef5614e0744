-- A report as a drawing: a lane for each task that began, the faults, the replies and each watched place, with time from left
-- to right.
use Rattle.std.specs.Prelude.{ℕ, ◌+◌, ◌-◌, ◌*◌, ◌/◌, max, List, [], ◌∷◌, ◌++◌, length, map, Bool, nat_le, if◌then◌else◌, codes, find, unwrap_or}
use Rattle.std.specs.Fmt.{decimal}
use Rattle.std.specs.List.{flat_map, range_with_len}
use Rattle.lgx_chart.specs.declared.clock.Clock.{Clock}
use Rattle.lgx_chart.specs.declared.clock.Clock.TheVariants.{Step, Tick}
use Rattle.lgx_chart.specs.declared.entry.Entry.{Entry}
use Rattle.lgx_chart.specs.declared.entry.End.{End}
use Rattle.lgx_chart.specs.declared.entry.Chart.{Chart}
use Rattle.lgx_chart.specs.declared.asked.Asked.{Asked}
use Rattle.lgx_chart.specs.Places.{places_of}
use Rattle.lgx_picture.specs.declared.lanes.Lane.{Lane}
use Rattle.lgx_picture.specs.declared.marks.Mark.{Mark}
use Rattle.lgx_picture.specs.declared.scale.Scale.{Scale}
use Rattle.lgx_picture.specs.declared.sizes.TheConstants.{TOP, LANE, GRID_LINES, SPACINGS, MAX_SPACING, HINT_WIDTH}
use Rattle.lgx_picture.specs.declared.looks.TheConstants.{STYLE, LEGEND, HINT}
use Rattle.lgx_picture.specs.Shapes.{escaped, words, upright, ground_line}
use Rattle.lgx_picture.specs.Lanes.{lanes_of, name_of, class_of, short}
use Rattle.lgx_picture.specs.Marks.{scale_of, x_of, right_of, edge_of, marks_of, values, marks_text}

-- ---- the fixed texts

unfoldable pub open_text : List ℕ
open_text = codes "<svg xmlns=\"http://www.w3.org/2000/svg\" width=\""

unfoldable pub height_text : List ℕ
height_text = codes "\" height=\""

unfoldable pub view_text : List ℕ
view_text = codes "\" viewBox=\"0 0 "

-- how things look, in light and in dark
unfoldable pub style : List ℕ
style = STYLE.now

-- what the colours mean
unfoldable pub legend : List ℕ
legend = LEGEND.now

-- how marks in one place are written, where the drawing has room for it
unfoldable pub hint : List ℕ
hint = HINT.now

-- ---- lanes

-- its name is shown whole when it is pointed at
abbrev pub lane_title : Lane → List ℕ
lane_title lane =
    codes "<g class=\"" ++ class_of lane ++ codes "\"><title>" ++ escaped (name_of lane) ++ codes "</title>\n"

-- a lane's name and its line
abbrev pub lane_head : Scale → Lane → ℕ → List ℕ
lane_head scale lane top =
    lane_title lane ++ words (codes "name") 10 (top + 36) (short (name_of lane)) ++ ground_line (right_of scale) (top + 40)

-- a lane that begins at that height
abbrev pub lane_text : Scale → Lane → ℕ → List Mark → List ℕ
lane_text scale lane top ms =
    lane_head scale lane top ++ values scale lane top ms ++ marks_text scale lane top ms ++ codes "</g>\n"

-- where a lane begins
abbrev pub top_of : ℕ → ℕ
top_of number = TOP + LANE * number

abbrev pub lane_at : Scale → List Entry → ℕ → Lane → List ℕ
lane_at scale es number lane = lane_text scale lane (top_of number) (marks_of scale lane es)

-- the lanes from that number on, one below the other
abbrev pub lanes_from : Scale → List Entry → ℕ → List Lane → List ℕ
lanes_from scale es number [] = []
lanes_from scale es number (lane ∷ lanes) = lane_at scale es number lane ++ lanes_from scale es (number + 1) lanes

-- ---- times

-- whether ten of a time reach the end
unfoldable pub reaches : ℕ → ℕ → Bool
reaches end spacing = nat_le end (10 * spacing)

-- the least of 1, 2, 5, 10, 20, .. of which ten reach the end
unfoldable pub spacing : ℕ → ℕ
spacing end = unwrap_or (find (reaches end) SPACINGS) MAX_SPACING

-- the first `count` multiples of a time, from 0 on
unfoldable pub multiples : ℕ → ℕ → List ℕ
multiples time count = map (λ k. k * time) (range_with_len 0 count)

-- a line down at a time up to the end, and the time below it
abbrev pub grid_line : Scale → ℕ → ℕ → List ℕ
grid_line scale bottom time =
    if nat_le time scale.end then upright (codes "grid") (x_of scale time) (TOP - 22) (bottom + 6) ++ words (codes "time") (x_of scale time) (bottom + 22) (decimal time) else []

-- the first multiple of a time that isn't before another
unfoldable pub first_multiple : ℕ → ℕ → ℕ
first_multiple time from = (from + time - 1) / max time 1 * time

abbrev pub grid_line_after : Scale → ℕ → ℕ → ℕ → List ℕ
grid_line_after scale bottom first time = grid_line scale bottom (first + time)

-- lines at the multiples of a time
unfoldable pub grid_by : Scale → ℕ → ℕ → List ℕ
grid_by scale bottom time =
    flat_map (grid_line_after scale bottom (first_multiple time scale.view.from)) (multiples time GRID_LINES)

abbrev pub grid : Scale → ℕ → List ℕ
grid scale bottom = grid_by scale bottom (spacing (scale.end - scale.view.from))

abbrev pub unit_of : Clock → List ℕ
unit_of Step = codes "processor steps"
unit_of Tick = codes "ticks (ms)"

-- ---- the whole

-- the corners of what is seen
unfoldable pub view_box : ℕ → ℕ → List ℕ
view_box edge height = view_text ++ decimal edge ++ codes " " ++ decimal height ++ codes "\">\n"

unfoldable pub head : ℕ → ℕ → List ℕ
head edge height = open_text ++ decimal edge ++ height_text ++ decimal height ++ view_box edge height ++ style

abbrev pub hint_within : ℕ → List ℕ
hint_within edge = if nat_le HINT_WIDTH edge then hint else codes "\n"

unfoldable pub ending : End → List ℕ
ending end =
    codes "ends in " ++ end.mode ++ codes " at tick " ++ decimal end.tick ++ codes ", step " ++ decimal end.step ++ codes "; lines lost: " ++ decimal end.lost

-- what is before the lanes: how the report ends, what the colours mean, the times
abbrev pub front : Scale → End → ℕ → List ℕ
front scale end bottom =
    head (edge_of scale) (bottom + 30) ++ words (codes "head") 10 22 (ending end) ++ legend ++ hint_within (edge_of scale) ++ grid scale bottom ++ words (codes "unit") 10 (bottom + 22) (unit_of scale.view.clock)

-- all of it, with these lanes
abbrev pub drawing_of : Scale → Chart → List Lane → List ℕ
drawing_of scale chart lanes =
    front scale chart.end (top_of (length lanes)) ++ lanes_from scale chart.entries 0 lanes ++ codes "</svg>\n"

abbrev pub svg_text : Asked → Chart → List ℕ
svg_text asked chart =
    drawing_of (scale_of asked.view chart.end) chart (lanes_of chart.tasks (places_of asked chart))
