-- Events of a kind, run by run.
use Rattle.std.specs.Prelude.{ℕ, List, Bool, if◌then◌else◌}
use Rattle.std.specs.List.{sum_by}
use Rattle.spec_machine.specs.declared.event.Event.{Event}
use Rattle.spec_text.specs.declared.script.EventRun.{EventRun}

-- how many there are in a run
abbrev pub run_count : (Event → Bool) → EventRun → ℕ
run_count is_one r = if is_one r.event then r.count else 0

-- and in all runs
abbrev pub runs_count : (Event → Bool) → List EventRun → ℕ
runs_count is_one rs = sum_by (run_count is_one) rs
