use Rattle.std.proofs.Common.{◌≡◌, ◌<◌, ◌≤◌, ℕ, true, length, take}
use Rattle.std.specs.Prelude.{slice_index_or, Some}
use Rattle.lgx_audit.specs.Along.{no_count, Shown, AreNumbersIn, counts_after, numbers_after}
use Rattle.lgx_audit.specs.Breaches.{keeps}
use Rattle.lgx_audit.specs.Watching.{keeps_turn_now, gives_way_now, passes, watching_after}
use Rattle.lgx_audit.proofs.one_pass.audit_events.Given as goal

-- all that is kept is that of the events so far, of which each passed its tests
abbrev pub invariant-loop-i : goal.invariant-loop-i
invariant-loop-i l =
    Shown l.counts (counts_after l.table (take l.i l.trace))
    × (length l.counts ≡ length l.table.tasks)
    × ((t : ℕ) → t < length l.counts → (slice_index_or l.counts t no_count).regions ≤ l.i)
    × ((t : ℕ) → t < length l.counts → (slice_index_or l.counts t no_count).downs ≤ l.i)
    × (l.watches ≡ (watching_after l.table (take l.i l.trace)).watches)
    × (length l.watches ≡ length l.table.tasks)
    × (l.last ≡ (watching_after l.table (take l.i l.trace)).last)
    × (l.way ≡ (watching_after l.table (take l.i l.trace)).way)
    × ((t : ℕ) → l.last ≡ Some t → t < length l.table.tasks)
    × AreNumbersIn l.tallies (numbers_after l.table (take l.i l.trace))
    × (length l.tallies ≡ l.table.programs)
    × (keeps 1 l.table (take l.i l.trace) ≡ true)
    × (passes (λ w x. keeps_turn_now w.watches x) l.table (take l.i l.trace) ≡ true)
    × (passes gives_way_now l.table (take l.i l.trace) ≡ true)
    × (keeps 3 l.table (take l.i l.trace) ≡ true)
