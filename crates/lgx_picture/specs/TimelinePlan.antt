-- What the program `logix_timeline` does.
use Rattle.std.specs.Prelude.{ℕ, List, codes, option_map}
use Rattle.lgx_answer.specs.Plan.{Plan}
use Rattle.lgx_chart.specs.Asked.{asked_of}
use Rattle.lgx_chart.specs.ChartPlan.{chart_plan}
use Rattle.lgx_picture.specs.Svg.{svg_text}

abbrev pub timeline_usage : List ℕ
timeline_usage =
    codes "usage: logix_timeline [tick] [--width N] [--from N] [--to N] [--bool NAME=VALUE].. [--number NAME=VALUE].. < REPORT\n"

-- by its words: a report's drawing, as they ask for it
abbrev pub timeline_plan : List (List ℕ) → Plan
timeline_plan words = chart_plan timeline_usage (option_map svg_text (asked_of words))
