-- What is watched of one task is what the definition says.
use Rattle.std.proofs.Common.{◌≡◌, ℕ, ◌+◌, ◌<◌, List, length, Option, sym, ◌∙◌, ap, arith}
use Rattle.std.specs.Prelude.{slice_index_or, nat_eq, Bool, true, false, Some, None, if◌then◌else◌}
use Rattle.lgx_audit.specs.declared.counts.Count.{Count}
use Rattle.lgx_audit.specs.declared.watch.TurnState.{TurnState}
use Rattle.spec_schedule.specs.declared.trace.Table.{Table}
use Rattle.spec_schedule.specs.declared.trace.TraceEvent.{TraceEvent}
use Rattle.spec_schedule.specs.Counting.{Counted, uncounted, counted, counted_all, Numbers, stepping}
use Rattle.spec_schedule.specs.Legal.{no_task, is_tick, is_action}
use Rattle.lgx_audit.specs.Along.{shown, IsWithin}
use Rattle.lgx_audit.specs.Watching.{stays, gives_at, watch_by, watched, candidate}
use Rattle.spec_legal.proofs.CountedLists.{count_at}

pub watched_at : (table : Table) (e : TraceEvent) (cs : List Counted) (ns : List Numbers) (last gives : Option ℕ) (t : ℕ) (count : Count) (w' w : TurnState) → length cs ≡ length table.tasks → t < length table.tasks → count ≡ shown (slice_index_or cs t uncounted) → gives ≡ gives_at table (record { tasks = cs; programs = ns; event = e }) last → w' ≡ watch_by table e gives t count.up (nat_eq (slice_index_or cs t uncounted).downs (counted (slice_index_or table.tasks t no_task) t e (slice_index_or cs t uncounted)).downs) w → w' ≡ watched table (record { tasks = cs; programs = ns; event = e }) last t (slice_index_or (counted_all table.tasks e cs) t uncounted) w
watched_at table e cs ns last gives t count w' w many within is given made =
    made
    ∙ (ap (λ (c : Count). watch_by table e gives t c.up (nat_eq (slice_index_or cs t uncounted).downs (counted (slice_index_or table.tasks t no_task) t e (slice_index_or cs t uncounted)).downs) w) is
    ∙ (ap (λ g. watch_by table e g t (slice_index_or cs t uncounted).up (nat_eq (slice_index_or cs t uncounted).downs (counted (slice_index_or table.tasks t no_task) t e (slice_index_or cs t uncounted)).downs) w) given
    ∙ ap (λ (c : Counted). watch_by table e (gives_at table (record { tasks = cs; programs = ns; event = e }) last) t (slice_index_or cs t uncounted).up (nat_eq (slice_index_or cs t uncounted).downs c.downs) w)
    (ap (λ n. counted (slice_index_or table.tasks t no_task) n e (slice_index_or cs t uncounted)) (let z : t ≡ 0 + t = omega arith in z) ∙ sym (count_at 0 table.tasks e cs t many within))))

-- whether a task stays up
pub stays_at : (table : Table) (e : TraceEvent) (cs : List Counted) (t : ℕ) → length cs ≡ length table.tasks → t < length table.tasks → nat_eq (slice_index_or cs t uncounted).downs (counted (slice_index_or table.tasks t no_task) t e (slice_index_or cs t uncounted)).downs ≡ stays (slice_index_or cs t uncounted) (slice_index_or (counted_all table.tasks e cs) t uncounted)
stays_at table e cs t many within =
    ap (λ (c : Counted). nat_eq (slice_index_or cs t uncounted).downs c.downs)
    (ap (λ n. counted (slice_index_or table.tasks t no_task) n e (slice_index_or cs t uncounted)) (let z : t ≡ 0 + t = omega arith in z) ∙ sym (count_at 0 table.tasks e cs t many within))

-- the task of a last step is one of the table
pub candidate_within : (n : ℕ) (e : TraceEvent) (last : Option ℕ) → IsWithin n e → ((u : ℕ) → last ≡ Some u → u < n) → (u : ℕ) → candidate e last ≡ Some u → u < n
candidate_within n e last within known u h = go (is_tick e) (is_action e) h
  where
    go : (t a : Bool) → (if t then None else (if a then last else stepping e)) ≡ Some u → u < n
    go true a k = absurd (cc k)
    go false true k = known u k
    go false false k = within u k
