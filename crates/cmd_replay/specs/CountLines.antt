-- What `gen` says of a report: how many lines it has, and its end line.
use Rattle.std.specs.Prelude.{ℕ, List, [], ◌∷◌, ◌++◌, length, codes, decimal}
use Rattle.spec_machine.specs.declared.event.Event.{Event}
use Rattle.spec_machine.specs.Project.{Project}
use Rattle.spec_machine.specs.Machine.{run}
use Rattle.spec_machine.specs.Report.{Report, report_of, report_lines, steps_of}
use Rattle.spec_text.specs.TextLines.{line_of}
use Rattle.spec_text.specs.ReportText.{end_text}

-- the number that made the texts, without needless zeros, how many lines the report has, and how many were lost
abbrev pub count_words : ℕ → ℕ → ℕ → List (List ℕ)
count_words n kept lost =
    codes "gen" ∷ decimal n ∷ codes "lines" ∷ decimal kept ∷ codes "lost" ∷ decimal lost ∷ []

unfoldable pub count_line : ℕ → ℕ → ℕ → List ℕ
count_line n kept lost = line_of (count_words n kept lost)

abbrev pub counted_text : ℕ → Report → List ℕ
counted_text n r = count_line n (length r.lines) r.lost ++ end_text r.tick r.step r.mode r.lost

-- of a journal's report on a project, in place of its lines
abbrev pub counted_report : ℕ → Project → List Event → List ℕ
counted_report n project journal = counted_text n (report_of (report_lines project journal) (run project journal) (steps_of journal))
