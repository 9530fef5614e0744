-- The report of a log that no more lines come to, line by line.
use Rattle.std.specs.Prelude.{ℕ, List, [], ◌∷◌, ◌++◌, map, flat_map, drop, slice_get, option_map, unwrap_or}
use Rattle.std.specs.List.{concat}
use Rattle.spec_machine.specs.declared.event.Event.{Event}
use Rattle.spec_machine.specs.Project.{Project}
use Rattle.spec_machine.specs.Machine.{run}
use Rattle.spec_machine.specs.Report.{Stamped, steps_of}
use Rattle.spec_text.specs.ReportText.{Names, line_text, end_text}
use Rattle.lgx_watch.specs.Kept.{KeptLines}
use Rattle.lgx_judge.specs.declared.ends.End.{End}

-- what the end line of a journal's report says
abbrev pub end_of : Project → List Event → End
end_of project journal =
    record { tick = (run project journal).tick; steps = steps_of journal; mode = (run project journal).mode }

-- the text of a line of the log by its number; none if there is no such line
abbrev pub line_at : Names → List Stamped → ℕ → List ℕ
line_at names lines i = unwrap_or (option_map (line_text names) (slice_get lines i)) []

-- the text of the end line
abbrev pub end_line : KeptLines → End → List ℕ
end_line log end = end_text end.tick end.steps end.mode log.lost

-- the texts of all lines: those of the log, and the end line
abbrev pub all_lines : Names → KeptLines → End → List (List ℕ)
all_lines names log end = map (line_text names) log.lines ++ end_line log end ∷ []

-- the report from line number i on
abbrev pub report_from : Names → KeptLines → End → ℕ → List ℕ
report_from names log end i = concat (drop i (all_lines names log end))

-- the whole report
abbrev pub ended_report : Names → KeptLines → End → List ℕ
ended_report names log end = flat_map (line_text names) log.lines ++ end_line log end
