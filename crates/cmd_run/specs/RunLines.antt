-- The lines of a run, one by one: those of the journal that was recorded, and those of its report.
use Rattle.std.specs.Prelude.{ℕ, ◌+◌, ◌-◌, List, [], ◌∷◌, ◌++◌, length, drop, flat_map, codes, slice_index_or}
use Rattle.spec_machine.specs.declared.event.Event.{Event}
use Rattle.spec_machine.specs.declared.event.Event.TheVariants.{Cpu}
use Rattle.spec_text.specs.declared.script.EventRun.{EventRun}
use Rattle.spec_text.specs.TextLines.{line_of}
use Rattle.spec_text.specs.JournalText.{event_words, joined}
use Rattle.lgx_judge.specs.declared.ends.End.{End}
use Rattle.lgx_judge.specs.ReportLines.{report_from}
use Rattle.lgx_shared.specs.RecorderView.{RecorderView}
use Rattle.lgx_shared.specs.Follows.{journal_of}
use Rattle.cmd_run.specs.declared.lines.NextLine.{NextLine}
use Rattle.cmd_run.specs.declared.lines.NextLine.TheVariants.{Journal, Report}

-- the line of a run of equal events
abbrev pub run_line : EventRun → List ℕ
run_line r = line_of (event_words r.event r.count)

-- what a journal has after its runs: no event
abbrev pub no_run : EventRun
no_run = record { event = Cpu; count = 0 }

-- the journal's run with this number
abbrev pub run_at : List Event → ℕ → EventRun
run_at journal i = slice_index_or (joined journal) i no_run

-- the text of the journal from run number i on: the lines of the runs, and the line `end`
abbrev pub journal_from : List Event → ℕ → List ℕ
journal_from journal i = flat_map run_line (drop i (joined journal)) ++ codes "end" ++ 10 ∷ []

-- the lines from this place on
abbrev pub rest_of : RecorderView → End → NextLine → List ℕ
rest_of v end (Journal next) =
    journal_from (journal_of v) next ++ report_from v.recording.names v.recording.log end 0
rest_of v end (Report next) = report_from v.recording.names v.recording.log end next

-- how many they are
abbrev pub left_of : RecorderView → NextLine → ℕ
left_of v (Journal next) = (length (joined (journal_of v)) - next) + (length v.recording.log.lines + 2)
left_of v (Report next) = (length v.recording.log.lines + 1) - next
