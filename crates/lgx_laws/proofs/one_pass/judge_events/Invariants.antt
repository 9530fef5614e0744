use Rattle.std.proofs.Common.{◌≡◌, ◌<◌, ◌≤◌, ℕ, length, take}
use Rattle.std.specs.Prelude.{slice_index_or, Some}
use Rattle.spec_laws.specs.CountedBack.{ticks_in_run}
use Rattle.lgx_audit.specs.Along.{no_count, Shown, counts_after, numbers_after}
use Rattle.lgx_laws.specs.Laws.{KeepsAll}
use Rattle.lgx_laws.specs.Modes.{mode_after}
use Rattle.lgx_laws.specs.Kept.{no_since, Kept, Books, past_after}
use Rattle.lgx_laws.proofs.one_pass.judge_events.Given as goal

-- all that is kept is that of the events so far, which keep all laws
abbrev pub invariant-loop-i : goal.invariant-loop-i
invariant-loop-i l =
    Shown l.counts (counts_after l.table (take l.i l.trace))
    × (length l.counts ≡ length l.table.tasks)
    × ((t : ℕ) → t < length l.counts → (slice_index_or l.counts t no_count).regions ≤ l.i)
    × ((t : ℕ) → t < length l.counts → (slice_index_or l.counts t no_count).downs ≤ l.i)
    × Kept l.kept (counts_after l.table (take l.i l.trace)) (past_after l.table (take l.i l.trace))
    × (length l.kept ≡ length l.table.tasks)
    × ((t : ℕ) → t < length l.kept → (slice_index_or l.kept t no_since).ticks ≤ l.i)
    × (l.control.run ≡ ticks_in_run (past_after l.table (take l.i l.trace)))
    × ((n : ℕ) → l.control.run ≡ Some n → n ≤ l.i)
    × (l.control.mode ≡ mode_after (past_after l.table (take l.i l.trace)))
    × Books l.books (numbers_after l.table (take l.i l.trace)) (past_after l.table (take l.i l.trace))
    × (length l.books ≡ l.table.programs)
    × KeepsAll (record { table = l.table; tasks = l.tasks; schedule = l.schedule }) (take l.i l.trace)
