-- How a reader's answer relates to what its definition says.
use Rattle.std.specs.Prelude.{ℕ, List, ◌++◌, Option, Some, None, Result, Ok, Err}
use Rattle.lgx_chart.specs.declared.entry.Entry.{Entry}
use Rattle.lgx_chart.specs.declared.entry.Chart.{Chart}
use Rattle.lgx_chart.specs.declared.error.ChartCode.{ChartCode}
use Rattle.lgx_chart.specs.declared.error.ChartFault.{ChartFault}
use Rattle.lgx_chart.specs.declared.error.ChartError.{ChartError}
use Rattle.lgx_chart.specs.declared.error.ChartError.TheVariants as whole

-- of a fault that is answered; running out of memory says nothing
abbrev pub IfFault : (ChartFault → Type 0) → ChartError → Type 0
IfFault P (whole.Line fault) = P fault
IfFault P whole.Memory = Unit {0}

abbrev pub fault_at : ChartCode → ℕ → ChartError
fault_at code line = whole.Line (record { code = code; line = line })

-- the fault of a line with that number, if it has a cause
abbrev pub refusal : ℕ → Result Entry ChartCode → Option ChartFault
refusal line (Ok e) = None
refusal line (Err code) = Some (record { code = code; line = line })

-- with entries before the others
abbrev pub with_entries : List Entry → Result Chart ChartFault → Result Chart ChartFault
with_entries done (Ok chart) = Ok (record chart { entries = done ++ chart.entries })
with_entries done (Err fault) = Err fault
