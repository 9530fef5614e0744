-- The tick: one stands for a millisecond (profile).
use Rattle.std.specs.Prelude.{ℕ, ◌+◌, ◌^◌, length, if◌then◌else◌, Option, Some, None, fold}
use Rattle.std.specs.List.{range_with_len}
use Rattle.spec_tables.specs.declared.fault.TheConstants.{WATCHDOG}
use Rattle.spec_tables.specs.declared.fault.Severity.TheVariants.{Major}
use Rattle.spec_machine.specs.declared.reply.Mode.{Mode}
use Rattle.spec_machine.specs.declared.reply.Mode.TheVariants.{Run}
use Rattle.spec_machine.specs.declared.answer.TickReport.{TickReport}
use Rattle.spec_tables.specs.declared.task.Release.{Release}
use Rattle.spec_tables.specs.declared.task.Release.TheVariants.{Released, Overlap, Inhibited}
use Rattle.spec_tables.specs.Tasks.{rotate, expired, due}
use Rattle.spec_machine.specs.State.{State, Answered}
use Rattle.spec_machine.specs.Releases.{AfterRelease, task_fault, major_fault, release_task}

-- a report gives the task whose watchdog ran out, and masks of the tasks that were released and of those that overlapped, bit t
-- standing for task t
abbrev pub quiet : TickReport
quiet = record { watchdog = None; released = 0; overlapped = 0 }

-- the report with the answer of a task's release
abbrev pub noted : ℕ → TickReport → Release → TickReport
noted t report Released = record report { released = report.released + 2 ^ t }
noted t report Overlap = record report { overlapped = report.overlapped + 2 ^ t }
noted t report Inhibited = report

abbrev pub after_release : ℕ → TickReport → AfterRelease → Answered TickReport
after_release t report r = record { state = r.state; answer = noted t report r.answer }

abbrev pub release_if_due : Answered TickReport → ℕ → Answered TickReport
release_if_due x t = if due t x.state.tick x.state.table then after_release t x.answer (release_task t x.state) else x

-- each due task, in project order
abbrev pub release_due : State → Answered TickReport
release_due s = fold release_if_due (record { state = s; answer = quiet }) (range_with_len 0 (length s.table.defs))

-- a watchdog that ran out is a major fault, and nothing more happens
abbrev pub after_watchdogs : State → Option ℕ → Answered TickReport
after_watchdogs s (Some t) = record { state = major_fault (task_fault s Major WATCHDOG t) s; answer = record quiet { watchdog = Some t } }
after_watchdogs s None = release_due s

abbrev pub in_run : State → Answered TickReport
in_run s = let s' = record s { table = rotate s.table } in after_watchdogs s' (expired s'.tick s'.table)

abbrev pub in_mode : Mode → State → Answered TickReport
in_mode Run s = in_run s
in_mode _ s = record { state = s; answer = quiet }

-- One tick later. In Run three things follow in turn: the chosen task goes behind those of its priority, if it has
-- nothing open; a watchdog that ran out faults its task, the first of them only; each periodic task that is due is
-- released, or overlaps, or is inhibited.
abbrev pub tick : State → Answered TickReport
tick s = in_mode s.mode (record s { tick = s.tick + 1 })
