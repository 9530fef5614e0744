-- What a program does that draws a report: its plan, by the picture that is asked for.
use Rattle.std.specs.Prelude.{ℕ, List, [], ◌++◌, codes, Option, Some, None, Result, Ok, Err}
use Rattle.std.specs.Fmt.{decimal}
use Rattle.lgx_answer.specs.declared.status.Verdict.TheVariants as verdict
use Rattle.lgx_answer.specs.Plan.{Plan, Say, Read, only}
use Rattle.lgx_chart.specs.declared.entry.Chart.{Chart}
use Rattle.lgx_chart.specs.declared.error.ChartCode.{ChartCode}
use Rattle.lgx_chart.specs.declared.error.ChartCode.TheVariants.{V1, V2, V3, V4, V5}
use Rattle.lgx_chart.specs.declared.error.ChartFault.{ChartFault}
use Rattle.lgx_chart.specs.Charts.{chart_of}

abbrev pub code_text : ChartCode → List ℕ
code_text V1 = codes "V1"
code_text V2 = codes "V2"
code_text V3 = codes "V3"
code_text V4 = codes "V4"
code_text V5 = codes "V5"

-- `report V1 line 4`
abbrev pub fault_text : ChartFault → List ℕ
fault_text fault = codes "report " ++ code_text fault.code ++ codes " line " ++ decimal fault.line ++ codes "\n"

-- a text that is no report is refused with the line that says why
abbrev pub refused : ChartFault → Plan
refused fault = Say verdict.Project (only (fault_text fault))

abbrev pub of_report : (Chart → Plan) → Result Chart ChartFault → Plan
of_report accepted (Ok chart) = accepted chart
of_report accepted (Err fault) = refused fault

-- what follows from bytes that are to be a report
abbrev pub on_report : (Chart → Plan) → List ℕ → Plan
on_report accepted bytes = of_report accepted (chart_of bytes)

-- the picture of a report is said, whole
abbrev pub drawn : (Chart → List ℕ) → Chart → Plan
drawn picture chart = Say verdict.Ok (only (picture chart))

-- the one file is standard input, which has no name
abbrev pub input_name : List ℕ
input_name = []

-- no picture is asked for: the usage is said; else a report is read and drawn
abbrev pub chart_plan : List ℕ → Option (Chart → List ℕ) → Plan
chart_plan usage None = Say verdict.Usage (only usage)
chart_plan usage (Some picture) = Read input_name (on_report (drawn picture))
