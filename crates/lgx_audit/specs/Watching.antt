-- What is watched along a trace in one pass, beside what is counted, and the test of each event. Nothing is looked at
-- again: each place asks only of the counts and of what is watched just before it.
use Rattle.std.specs.Prelude.{ℕ, List, [], ◌∷◌, map, replicate, Bool, true, false, not, ◌&&◌, ◌||◌, nat_eq, if◌then◌else◌, Option, Some, None, slice_index_or}
use Rattle.std.specs.List.{list_any, enumerate_from}
use Rattle.lgx_audit.specs.declared.watch.TurnState.{TurnState}
use Rattle.spec_schedule.specs.declared.trace.TraceEvent.{TraceEvent}
use Rattle.spec_schedule.specs.declared.trace.Table.{Table}
use Rattle.spec_schedule.specs.Counting.{Counted, uncounted, counted_all, Numbers, unedited, edited_all, is_open, is_task, stepping, CountedEvent}
use Rattle.spec_schedule.specs.Legal.{priority_of, at, higher_up, is_tick, is_action}

-- a task of which nothing is watched
abbrev pub unwatched : TurnState
unwatched = record { stepped = false; passed = false; awaited = false }

-- Of all: the task of the last step, as long as it stays up and actions alone follow; and the task that gives way since the
-- last tick.
pub record Watching : Type 0 where
  pub watches : List TurnState
  pub last : Option ℕ
  pub way : Option ℕ

abbrev pub watch_at : List TurnState → ℕ → TurnState
watch_at ws t = slice_index_or ws t unwatched

-- it hasn't gone down between these counts
abbrev pub stays : Counted → Counted → Bool
stays c c' = nat_eq c.downs c'.downs

-- ---- what an event makes of it

-- the task that gives way at a tick: that of the last step, if it has nothing open and no task of higher priority is up
abbrev pub gives_at : Table → CountedEvent → Option ℕ → Option ℕ
gives_at table x None = None
gives_at table x (Some t) = if not (is_open (at x t)) && not (higher_up table x t) then Some t else None

-- another one of the same priority
abbrev pub is_rival_of : Table → ℕ → Option ℕ → Bool
is_rival_of table u None = false
is_rival_of table u (Some t) = nat_eq (priority_of table u) (priority_of table t) && not (nat_eq u t)

abbrev pub watched_step : Table → ℕ → Option ℕ → Bool → TurnState → TurnState
watched_step table t None stay w = record { stepped = w.stepped && stay; passed = w.passed; awaited = w.awaited && stay }
watched_step table t (Some u) stay w =
    if nat_eq u t then record { stepped = stay; passed = false; awaited = w.awaited && stay }
    else record { stepped = w.stepped && stay; passed = w.passed || nat_eq (priority_of table u) (priority_of table t); awaited = w.awaited && stay }

-- of task t, by who gives way at this event if it is a tick, whether t is up before it, and whether it stays up
abbrev pub watch_by : Table → TraceEvent → (gives : Option ℕ) → ℕ → (up stay : Bool) → TurnState → TurnState
watch_by table e gives t up stay w =
    if is_tick e
    then record { stepped = false; passed = false; awaited = up && is_rival_of table t gives && stay }
    else watched_step table t (stepping e) stay w

-- by its counts before and after the event
abbrev pub watched : Table → CountedEvent → Option ℕ → ℕ → Counted → TurnState → TurnState
watched table x last t c' w = watch_by table x.event (gives_at table x last) t (at x t).up (stays (at x t) c') w

abbrev pub stays_last : List Counted → List Counted → Option ℕ → Option ℕ
stays_last cs cs' None = None
stays_last cs cs' (Some t) = if stays (slice_index_or cs t uncounted) (slice_index_or cs' t uncounted) then Some t else None

-- the task of the last step after the event, if it stays up in it
abbrev pub candidate : TraceEvent → Option ℕ → Option ℕ
candidate e last = if is_tick e then None else (if is_action e then last else stepping e)

abbrev pub last_after : CountedEvent → List Counted → Option ℕ → Option ℕ
last_after x cs' last = stays_last x.tasks cs' (candidate x.event last)

abbrev pub way_after : Table → CountedEvent → Option ℕ → Option ℕ → Option ℕ
way_after table x last way = if is_tick x.event then gives_at table x last else way

-- ---- the tests of an event

-- a task steps that hasn't been passed since its last step
abbrev pub is_unpassed : List TurnState → Option ℕ → Bool
is_unpassed ws None = true
is_unpassed ws (Some t) = not ((watch_at ws t).stepped && (watch_at ws t).passed)

abbrev pub keeps_turn_now : List TurnState → CountedEvent → Bool
keeps_turn_now ws x = is_unpassed ws (stepping x.event)

-- a task steps that awaits nobody
abbrev pub awaits_none : Watching → Option ℕ → Bool
awaits_none w None = true
awaits_none w (Some t) = not (is_task t w.way && list_any (λ v. v.awaited) w.watches)

abbrev pub gives_way_now : Watching → CountedEvent → Bool
gives_way_now w x = awaits_none w (stepping x.event)

-- ---- along a trace

abbrev pub watched_all : Table → CountedEvent → List Counted → Watching → Watching
watched_all table x cs' w =
    record { watches = map (λ v. watched table x w.last v.0 (slice_index_or cs' v.0 uncounted) v.1) (enumerate_from 0 w.watches); last = last_after x cs' w.last; way = way_after table x w.last w.way }

abbrev pub first_watching : Table → Watching
first_watching table = record { watches = map (λ d. unwatched) table.tasks; last = None; way = None }

-- a test of each event by what is watched just before it
abbrev pub passes_from : (Watching → CountedEvent → Bool) → Table → Watching → List Counted → List Numbers → List TraceEvent → Bool
passes_from test table w cs ns [] = true
passes_from test table w cs ns (e ∷ es) =
    let x : CountedEvent = record { tasks = cs; programs = ns; event = e } in
    let cs' = counted_all table.tasks e cs in
    test w x && passes_from test table (watched_all table x cs' w) cs' (edited_all e ns) es

abbrev pub passes : (Watching → CountedEvent → Bool) → Table → List TraceEvent → Bool
passes test table trace = passes_from test table (first_watching table) (map (λ d. uncounted) table.tasks) (replicate table.programs unedited) trace

-- what is watched after a trace
abbrev pub watching_from : Table → Watching → List Counted → List Numbers → List TraceEvent → Watching
watching_from table w cs ns [] = w
watching_from table w cs ns (e ∷ es) =
    let x : CountedEvent = record { tasks = cs; programs = ns; event = e } in
    let cs' = counted_all table.tasks e cs in
    watching_from table (watched_all table x cs' w) cs' (edited_all e ns) es

abbrev pub watching_after : Table → List TraceEvent → Watching
watching_after table trace = watching_from table (first_watching table) (map (λ d. uncounted) table.tasks) (replicate table.programs unedited) trace
