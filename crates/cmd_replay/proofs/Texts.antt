-- What `gen` says of the log of a run.
use Rattle.std.proofs.Common.{◌≡◌, ℕ, List, ◌++◌, length, ap, ◌∙◌}
use Rattle.spec_machine.specs.declared.event.Event.{Event}
use Rattle.spec_machine.specs.Project.{Project}
use Rattle.spec_machine.specs.Report.{report_lines}
use Rattle.lgx_watch.specs.Kept.{KeptLines, kept_of}
use Rattle.lgx_judge.specs.declared.ends.End.{End}
use Rattle.lgx_judge.specs.ReportLines.{end_line, end_of}
use Rattle.cmd_replay.specs.CountLines.{count_line, counted_report}

-- its counts and its end line
pub counts_told : (n : ℕ) (log : KeptLines) (end : End) (project : Project) (events : List Event) → log ≡ kept_of (report_lines project events) → end ≡ end_of project events
    → count_line n (length log.lines) log.lost ++ end_line log end ≡ counted_report n project events
counts_told n log end project events log_is is =
    let told : KeptLines → End → List ℕ = λ log end. count_line n (length log.lines) log.lost ++ end_line log end in
    ap (λ log. told log end) log_is ∙ ap (λ e. told (kept_of (report_lines project events)) e) is
