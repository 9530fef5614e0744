-- What the program `logix_wave` does.
use Rattle.std.specs.Prelude.{ℕ, List, if◌then◌else◌, codes, Option, Some, None, is_some, option_map}
use Rattle.std.specs.Option.{option_and_then}
use Rattle.lgx_answer.specs.Plan.{Plan}
use Rattle.lgx_chart.specs.declared.asked.Asked.{Asked}
use Rattle.lgx_chart.specs.Asked.{asked_of}
use Rattle.lgx_chart.specs.ChartPlan.{chart_plan}
use Rattle.lgx_chart.specs.Vcd.{vcd_text}

abbrev pub wave_usage : List ℕ
wave_usage =
    codes "usage: logix_wave [tick] [--from N] [--to N] [--bool NAME=VALUE].. [--number NAME=VALUE].. < REPORT\n"

-- a wave file has no width
abbrev pub widthless : Asked → Option Asked
widthless asked = if is_some asked.view.width then None else Some asked

abbrev pub wave_asked : List (List ℕ) → Option Asked
wave_asked words = option_and_then widthless (asked_of words)

-- by its words: a report's wave file, as they ask for it
abbrev pub wave_plan : List (List ℕ) → Plan
wave_plan words = chart_plan wave_usage (option_map vcd_text (wave_asked words))
