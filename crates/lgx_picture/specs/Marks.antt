-- The marks of a lane: where they are, and what is drawn of them.
use Rattle.std.specs.Prelude.{ℕ, ◌+◌, ◌-◌, ◌*◌, ◌/◌, ◌^◌, min, max, List, [], ◌∷◌, ◌++◌, length, fold, Bool, false, nat_eq, nat_le, nat_lt, if◌then◌else◌, codes, ℤ, pos, ◌+ℤ◌, Option, Some, None, option_map, unsigned_abs, unwrap_or}
use Rattle.std.specs.Fmt.{decimal, signed_decimal}
use Rattle.std.specs.List.{flat_map, filter_map}
use Rattle.std.specs.Option.{option_or}
use Rattle.lgx_chart.specs.declared.asked.View.{View}
use Rattle.lgx_chart.specs.declared.entry.Note.{Note}
use Rattle.lgx_chart.specs.declared.entry.Note.TheVariants.{Begin, Reply, Fault, Set}
use Rattle.lgx_chart.specs.declared.entry.Entry.{Entry}
use Rattle.lgx_chart.specs.declared.entry.End.{End}
use Rattle.lgx_chart.specs.Clocks.{time_of}
use Rattle.lgx_chart.specs.Places.{is_shown}
use Rattle.lgx_picture.specs.declared.lanes.Lane.{Lane}
use Rattle.lgx_picture.specs.declared.lanes.Lane.TheVariants.{Task, Faults, Replies, Watch}
use Rattle.lgx_picture.specs.declared.marks.Mark.{Mark}
use Rattle.lgx_picture.specs.declared.scale.Scale.{Scale}
use Rattle.lgx_picture.specs.declared.values.Band.{Band}
use Rattle.lgx_picture.specs.declared.sizes.TheConstants.{LEFT, AFTER, PAGE, LETTER, FLOOR, RISE, ZERO, GAP}
use Rattle.lgx_picture.specs.Shapes.{escaped, words, line_from, across_to, upright, bar}
use Rattle.lgx_picture.specs.Lanes.{said_in}

-- ---- places

-- what is shown, the last time of it, and how many pixels there are from the first time to the last
abbrev pub scale_of : View → End → Scale
scale_of view end = record {
  view = view;
  end = min view.to (time_of view.clock end.tick end.step);
  width = unwrap_or view.width PAGE - (LEFT + AFTER);
}

-- where a time is: the first at the left, the last at the right
abbrev pub x_of : Scale → ℕ → ℕ
x_of scale time =
    LEFT + (min time scale.end - scale.view.from) * scale.width / max (scale.end - scale.view.from) 1

-- where the last time is
abbrev pub right_of : Scale → ℕ
right_of scale = LEFT + scale.width

-- the width of the drawing
abbrev pub edge_of : Scale → ℕ
edge_of scale = LEFT + scale.width + AFTER

-- how high a value is, counted from the least DINT
abbrev pub level_at : ℤ → ℕ
level_at value = unsigned_abs (value +ℤ pos (2 ^ 31))

abbrev pub level_of : Note → ℕ
level_of (Begin task program version) = 0
level_of (Reply words) = 0
level_of (Fault words) = 0
level_of (Set watch value) = level_at value

-- ---- the marks of a lane, in the order of the report

abbrev pub marked : Scale → Entry → List ℕ → Mark
marked scale e label = record {
  x = x_of scale (time_of scale.view.clock e.tick e.step);
  tick = e.tick;
  step = e.step;
  level = level_of e.note;
  label = label;
}

abbrev pub mark_of : Scale → Lane → Entry → Option Mark
mark_of scale lane e =
    if is_shown scale.view e then option_map (marked scale e) (said_in lane e.note) else None

abbrev pub marks_of : Scale → Lane → List Entry → List Mark
marks_of scale lane es = filter_map (mark_of scale lane) es

-- ---- the values of a watched place as a step line

-- the level of the value at the first time, or of 0
abbrev pub start_level : Option ℤ → ℕ
start_level None = ZERO
start_level (Some value) = level_at value

-- the lowest and the highest of these levels and that of the value 0
abbrev pub lowest : Option ℤ → List Mark → ℕ
lowest start ms = fold (λ level m. min level m.level) (min ZERO (start_level start)) ms

abbrev pub highest : Option ℤ → List Mark → ℕ
highest start ms = fold (λ level m. max level m.level) (max ZERO (start_level start)) ms

abbrev pub band_of : ℕ → Option ℤ → List Mark → Band
band_of top start ms = record { top = top; low = lowest start ms; high = highest start ms }

-- where a level is between the lowest and the highest
abbrev pub y_of : Band → ℕ → ℕ
y_of band level = band.top + (FLOOR - RISE * (level - band.low) / max (band.high - band.low) 1)

-- the next corners: across to the mark, and up or down to its value
abbrev pub corner : Band → Mark → List ℕ
corner band m = codes "H" ++ decimal m.x ++ codes "V" ++ decimal (y_of band m.level)

-- to the end, from the value at the first time if it is known, and else from the first mark
abbrev pub step_line : Scale → Band → Option ℤ → List Mark → List ℕ
step_line scale band (Some value) ms =
    line_from (codes "value") LEFT (y_of band (level_at value)) ++ flat_map (corner band) ms ++ across_to (right_of scale)
step_line scale band None [] = []
step_line scale band None (m ∷ ms) =
    line_from (codes "value") m.x (y_of band m.level) ++ flat_map (corner band) ms ++ across_to (right_of scale)

abbrev pub first_x : List Mark → Option ℕ
first_x [] = None
first_x (m ∷ ms) = Some m.x

-- a text beside a place, if it ends before the next one
abbrev pub beside : ℕ → ℕ → ℕ → List ℕ → List ℕ
beside top next x text =
    if nat_le (x + LETTER * length text + 8) next then words (codes "label") (x + 4) (top + 16) text else []

-- the value at the first time, written there
abbrev pub start_text : Scale → ℕ → Option ℤ → List Mark → List ℕ
start_text scale top None ms = []
start_text scale top (Some value) ms = beside top (unwrap_or (first_x ms) (edge_of scale)) LEFT (signed_decimal value)

abbrev pub value_lines : Scale → ℕ → Option ℤ → List Mark → List ℕ
value_lines scale top start ms = step_line scale (band_of top start ms) start ms ++ start_text scale top start ms

abbrev pub values : Scale → Lane → ℕ → List Mark → List ℕ
values scale (Task name) top ms = []
values scale Faults top ms = []
values scale Replies top ms = []
values scale (Watch place) top ms = value_lines scale top place.start ms

-- ---- strokes: marks that follow one another in one place share one

abbrev pub is_at : Option ℕ → ℕ → Bool
is_at None x = false
is_at (Some other) x = nat_eq other x

-- what a viewer shows of a mark when its stroke is pointed at
abbrev pub told : Mark → List ℕ
told m = codes "tick " ++ decimal m.tick ++ codes ", step " ++ decimal m.step ++ codes ": " ++ escaped m.label

abbrev pub opening : Option ℕ → ℕ → List ℕ
opening before x = if is_at before x then codes "\n" else codes "<g><title>"

-- the stroke, unless the next mark is in the same place; the last mark's text is written beside it
abbrev pub closing : Scale → ℕ → Option ℕ → Mark → List ℕ
closing scale top next m =
    if is_at next m.x then [] else codes "</title>" ++ upright (codes "mark") m.x (top + 8) (top + 40) ++ beside top (unwrap_or next (edge_of scale)) m.x m.label ++ codes "</g>\n"

-- the strokes after a place; what is after all of them begins at another
abbrev pub strokes : Scale → ℕ → Option ℕ → Option ℕ → List Mark → List ℕ
strokes scale top after before [] = []
strokes scale top after before (m ∷ ms) =
    opening before m.x ++ told m ++ closing scale top (option_or (first_x ms) after) m ++ strokes scale top after (Some m.x) ms

-- ---- begins that are close together: more than a few are a bar with their count

-- a mark before runs: it joins the first if that begins close to it
abbrev pub joined : Mark → List (List Mark) → List (List Mark)
joined m [] = (m ∷ []) ∷ []
joined m ([] ∷ others) = (m ∷ []) ∷ others
joined m ((n ∷ run) ∷ others) =
    if nat_le n.x (m.x + GAP) then (m ∷ n ∷ run) ∷ others else (m ∷ []) ∷ (n ∷ run) ∷ others

-- marks by runs, in each of which every mark is close to the one before
abbrev pub runs_of : List Mark → List (List Mark)
runs_of [] = []
runs_of (m ∷ ms) = joined m (runs_of ms)

abbrev pub last_of : Mark → List Mark → Mark
last_of m ms = fold (λ before n. n) m ms

abbrev pub count_text : ℕ → List ℕ
count_text count = decimal count ++ codes " begins"

-- what a viewer shows of a bar: how many, the first and the last
abbrev pub bar_ends : Mark → Mark → List ℕ
bar_ends first last = (codes "\nfrom " ++ told first) ++ (codes "\nto " ++ told last)

unfoldable pub bar_title : List ℕ → Mark → Mark → List ℕ
bar_title said first last = codes "<g><title>" ++ said ++ bar_ends first last ++ codes "</title>"

-- a bar from the first to the last of `count` marks
abbrev pub bar_of : Scale → ℕ → Option ℕ → Mark → Mark → ℕ → List ℕ
bar_of scale top next first last count =
    bar_title (count_text count) first last ++ bar first.x last.x (top + 24) ++ beside top (unwrap_or next (edge_of scale)) first.x (count_text count) ++ codes "</g>\n"

abbrev pub run_text : Scale → ℕ → Option ℕ → List Mark → List ℕ
run_text scale top next [] = []
run_text scale top next (m ∷ ms) =
    if nat_lt GAP (length (m ∷ ms)) then bar_of scale top next m (last_of m ms) (length (m ∷ ms)) else strokes scale top next None (m ∷ ms)

abbrev pub next_x : List (List Mark) → Option ℕ
next_x [] = None
next_x (run ∷ others) = first_x run

abbrev pub run_texts : Scale → ℕ → List (List Mark) → List ℕ
run_texts scale top [] = []
run_texts scale top (run ∷ others) = run_text scale top (next_x others) run ++ run_texts scale top others

-- the marks of a lane
abbrev pub marks_text : Scale → Lane → ℕ → List Mark → List ℕ
marks_text scale (Task name) top ms = run_texts scale top (runs_of ms)
marks_text scale Faults top ms = strokes scale top None None ms
marks_text scale Replies top ms = strokes scale top None None ms
marks_text scale (Watch place) top ms = strokes scale top None None ms
