-- What is left of a text that is handed out line by line.
use Rattle.std.specs.Prelude.{ℕ, List, [], ◌++◌, length}
use Rattle.lgx_watch.specs.Kept.{KeptLines}
use Rattle.lgx_judge.specs.declared.ends.End.{End}
use Rattle.lgx_judge.specs.ReportLines.{end_line, report_from}
use Rattle.cmd_replay.specs.declared.report_lines.ReportLines.{ReportLines}
use Rattle.cmd_replay.specs.declared.counts.Next.{Next}
use Rattle.cmd_replay.specs.declared.counts.Next.TheVariants as next
use Rattle.cmd_replay.specs.declared.counts.Counts.{Counts}
use Rattle.cmd_replay.specs.CountLines.{count_line}

-- the report from the next line on
abbrev pub report_rest : ReportLines → List ℕ
report_rest l = report_from l.run.names l.log l.end l.next

-- the line with the counts and the end line, or one of them, or nothing
abbrev pub told_from : Next → ℕ → KeptLines → End → List ℕ
told_from next.Counts n log end = count_line n (length log.lines) log.lost ++ end_line log end
told_from next.Last n log end = end_line log end
told_from next.Nothing n log end = []

-- what `gen` says from the next line on
abbrev pub counts_rest : Counts → List ℕ
counts_rest l = told_from l.next l.number l.log l.end

-- how many lines these are
abbrev pub counts_left : Next → ℕ
counts_left next.Counts = 2
counts_left next.Last = 1
counts_left next.Nothing = 0
