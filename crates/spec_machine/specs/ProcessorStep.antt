-- One processor step.
use Rattle.std.specs.Prelude.{ℕ, ◌+◌, true, false, length, nat_lt, if◌then◌else◌, Option, Some, None, slice_set, slice_index, slice_index_or}
use Rattle.spec_tables.specs.declared.fault.TheConstants.{OVERFLOW}
use Rattle.spec_tables.specs.declared.fault.Fault.{Fault}
use Rattle.spec_tables.specs.declared.fault.Severity.TheVariants as severity
use Rattle.spec_machine.specs.declared.answer.What.{What}
use Rattle.spec_machine.specs.declared.answer.What.TheVariants as what
use Rattle.spec_machine.specs.declared.answer.Mark.{Mark}
use Rattle.spec_machine.specs.declared.answer.Mark.TheVariants as mark
use Rattle.spec_machine.specs.declared.answer.Moment.{Moment}
use Rattle.spec_scan.specs.declared.bound.Effect.{Effect}
use Rattle.spec_scan.specs.declared.bound.Effect.TheVariants.{Ran, Up, Down, Trigger, CopyStart, Copied, Left, Minor, Major}
use Rattle.spec_scan.specs.Position.{first_position}
use Rattle.spec_scan.specs.Scan.{Advanced, advance}
use Rattle.spec_tables.specs.Tasks.{Table, chosen, finish, region_up, region_down, region_clear, set_copy}
use Rattle.spec_machine.specs.Edits.{book_at, selected, selected_number}
use Rattle.spec_machine.specs.State.{State, Scan, Progress, progress_of, programs_of, dropped, with_fault, Answered}
use Rattle.spec_machine.specs.Releases.{AfterRelease, program_fault, major_fault, release_task}

abbrev pub told : State → What → Mark → Option Fault → Answered Moment
told s what mark fault = record { state = s; answer = record { what = what; mark = mark; fault = fault } }

abbrev pub plainly : State → What → Answered Moment
plainly s what = told s what mark.Plain None

-- the task that a processor step was of
abbrev pub task_of : What → Option ℕ
task_of what.Idle = None
task_of (what.Began t n version) = Some t
task_of (what.Ran t n) = Some t
task_of (what.Copied t n) = Some t
task_of (what.Left t n ended) = Some t

abbrev pub with_progress : ℕ → Progress → State → State
with_progress t p s = record s { progress = slice_set s.progress t p }

abbrev pub with_table : Table → State → State
with_table table s = record s { table = table }

-- ---- a task begins its next program, by the rungs that are selected now

abbrev pub new_scan : State → ℕ → Scan
new_scan s n =
    let rungs = selected (book_at s.books n) in
    record { program = n; first = slice_index_or s.firsts n false; rungs = rungs; position = first_position rungs }

abbrev pub begin_program : State → ℕ → Progress → ℕ → Answered Moment
begin_program s t p n =
    plainly (record (with_progress t (record p { scan = Some (new_scan s n) }) s) { firsts = slice_set s.firsts n false }) (what.Began t n (selected_number (book_at s.books n)))

-- the one after those that ended since the task's release
abbrev pub next_program : State → ℕ → Progress → ℕ
next_program s t p = slice_index (programs_of s t) p.ended

-- ---- a program scan has ended

-- The task's next program is to begin, and its region count becomes 0; after its last program it goes down.
abbrev pub scan_ended : ℕ → Progress → State → State
scan_ended t p s =
    if nat_lt (p.ended + 1) (length (programs_of s t)) then with_progress t (record p { ended = p.ended + 1; scan = None }) (with_table (region_clear t s.table) s)
    else with_progress t (dropped p) (with_table (finish t s.tick s.table) s)

-- ---- a step of the scan in progress

-- the moment has the mark whatever the release is answered
abbrev pub triggered : What → ℕ → AfterRelease → Answered Moment
triggered what t r = told r.state what (mark.Trigger t) r.fault

-- what the effect of a scan's step does to the tasks and to the list of faults; s has its image, flags and position
abbrev pub after_effect : State → ℕ → Progress → ℕ → Effect → Answered Moment
after_effect s t p n effect = go effect
  where
    ran : What
    ran = what.Ran t n

    go : Effect → Answered Moment
    go Ran = plainly s ran
    go Up = told (with_table (region_up t s.table) s) ran mark.Up None
    go Down = told (with_table (region_down t s.table) s) ran mark.Down None
    go (Trigger other) = triggered ran other (release_task other s)
    go (CopyStart sync) = told (with_table (set_copy t sync s.table) s) ran (mark.CopyStart sync) None
    go (Copied true sync) = told (with_table (set_copy t false s.table) s) (what.Copied t n) (mark.CopyEnd sync) None
    go (Copied false sync) = plainly s (what.Copied t n)
    go (Left true) = plainly (scan_ended t p s) (what.Left t n true)
    go (Left false) = plainly s (what.Left t n false)
    go Minor = let f = program_fault s severity.Minor OVERFLOW t n in told (with_fault f s) ran mark.Plain (Some f)
    go (Major code) = let f = program_fault s severity.Major code t n in told (major_fault f s) ran mark.Plain (Some f)

abbrev pub after_advance : State → ℕ → Progress → Scan → Advanced → Answered Moment
after_advance s t p scan a =
    let p' : Progress = record { ended = p.ended; scan = Some (record scan { position = a.position }); flags = a.flags } in
    after_effect (record (with_progress t p' s) { image = a.image }) t p' scan.program a.effect

abbrev pub scan_step : State → ℕ → Progress → Option Scan → Answered Moment
scan_step s t p None = begin_program s t p (next_program s t p)
scan_step s t p (Some scan) = after_advance s t p scan (advance scan.rungs scan.position s.image s.tick scan.first p.flags)

-- ---- the step

abbrev pub task_step : State → Option ℕ → Answered Moment
task_step s None = plainly s what.Idle
task_step s (Some t) = scan_step s t (progress_of s t) (progress_of s t).scan

-- What the chosen task does: where it has no scan it begins its next program; in the midst of a copy it copies one
-- element more; at the end of the top frame it leaves that frame; else it executes an instruction. With no task chosen
-- the step is idle.
abbrev pub processor_step : State → Answered Moment
processor_step s = task_step s (chosen s.table)
