-- Partial and complete journals of a script.
use Rattle.std.specs.Prelude.{◌≡◌, ℕ, zero, suc, ◌+◌, ◌-◌, ◌%◌, ◌≤◌, List, [], ◌∷◌, ◌++◌, map, length, take, drop, Bool, true, false, not, ◌&&◌, nat_lt, nat_eq, if◌then◌else◌, Option, Some, None, IsTrue, IsFalse}
use Rattle.std.specs.Bool.{beq as agree}
use Rattle.std.specs.List.{AllZip, enumerate_from, list_all, last_or, range_with_len}
use Rattle.spec_base.specs.declared.limits.TheConstants.{OWN_LANE}
use Rattle.spec_machine.specs.declared.event.Action.{Action}
use Rattle.spec_machine.specs.declared.event.Action.TheVariants.{ModeRun}
use Rattle.spec_machine.specs.declared.event.Event.{Event}
use Rattle.spec_machine.specs.declared.event.Event.TheVariants.{Cpu, Tick, Act}
use Rattle.spec_machine.specs.declared.reply.Reply.TheVariants.{Held}
use Rattle.spec_text.specs.declared.script.Timed.{Timed}
use Rattle.spec_machine.specs.Events.{is_step, is_tick, steps_of}
use Rattle.spec_text.specs.Scripts.{Script}
use Rattle.spec_tables.specs.Tasks.{held}
use Rattle.spec_machine.specs.Project.{Project}
use Rattle.spec_machine.specs.Machine.{TraceEntry, OfAction, run, trace}

-- a CPS is open after these events
abbrev pub is_held_after : Project → List Event → Bool
is_held_after project journal = held (run project journal).table

-- ---- the actions of the lanes

-- the journal's own lane has no other action than the first, and every other action is of a lane of the script
abbrev pub is_of_lane : ℕ → Event → Bool
is_of_lane lanes (Act lane a) = not (nat_eq lane OWN_LANE) && nat_lt lane lanes
is_of_lane lanes _ = true

-- an action in a journal, and the number of ticks before it
pub record Made : Type 0 where
  pub action : Action
  pub ticks : ℕ

abbrev pub made_if : Bool → Action → ℕ → List Made → List Made
made_if true a ticks made = record { action = a; ticks = ticks } ∷ made
made_if false a ticks made = made

-- what a lane does in a journal, after `ticks` ticks
abbrev pub made_by : ℕ → ℕ → List Event → List Made
made_by lane ticks [] = []
made_by lane ticks (Cpu ∷ es) = made_by lane ticks es
made_by lane ticks (Tick ∷ es) = made_by lane (ticks + 1) es
made_by lane ticks (Act l a ∷ es) = made_if (nat_eq l lane) a ticks (made_by lane ticks es)

-- a lane's actions in the journal are the first `count` of its list, in order, and each comes after at least `at` ticks
pub record LaneDid (journal : List Event) (lane count : ℕ) (list : List Timed) : Type 0 where
  pub enough : count ≤ length list
  pub order : map (λ m. m.action) (made_by lane 0 journal) ≡ map (λ t. t.action) (take count list)
  pub due : AllZip (λ m t. t.at ≤ m.ticks) (made_by lane 0 journal) (take count list)

-- there is one count for each lane, and each lane did as many
abbrev pub LanesDid : List Event → List ℕ → List (List Timed) → Type 0
LanesDid journal counts lists = AllZip (λ count lane. LaneDid journal lane.0 count lane.1) counts (enumerate_from 0 lists)

abbrev pub is_held : TraceEntry → Bool
is_held (OfAction lane action o) = elim o.reply [ Held ↦ true | _ ↦ false ]
is_held _ = false

-- ---- ticks and steps

-- the test of what comes before and after each place of a journal, its two ends too
abbrev pub each_place : (List Event → List Event → Bool) → List Event → List Event → Bool
each_place test before [] = test before []
each_place test before (e ∷ es) = test before (e ∷ es) && each_place test (before ++ e ∷ []) es

abbrev pub begins_with_tick : List Event → Bool
begins_with_tick [] = false
begins_with_tick (e ∷ es) = is_tick e

abbrev pub is_some_step : Option Event → Bool
is_some_step None = false
is_some_step (Some e) = is_step e

-- these events end with a processor step whose number the pace divides
abbrev pub ends_pace : ℕ → List Event → Bool
ends_pace pace events = is_some_step (last_or None events) && nat_eq (steps_of events % pace) 0

-- the ticks are where the pace has them: each right after a processor step with a number that the pace divides
abbrev pub is_paced : ℕ → List Event → Bool
is_paced pace journal = each_place (λ before after. agree (begins_with_tick after) (ends_pace pace before)) [] journal

-- the events up to and with the k-th processor step and its tick, if it has one
abbrev pub tick_at : List Event → List Event
tick_at [] = []
tick_at (e ∷ es) = if is_tick e then e ∷ [] else []

abbrev pub through_step : ℕ → List Event → List Event
through_step zero events = tick_at events
through_step (suc k) [] = []
through_step (suc k) (Cpu ∷ es) = Cpu ∷ through_step k es
through_step (suc k) (e ∷ es) = e ∷ through_step (suc k) es

-- each processor step beyond the first `steps` found a CPS open: one was open when the step before it and that step's
-- tick had been done
abbrev pub is_held_over : Project → ℕ → List Event → Bool
is_held_over project steps journal = list_all (λ k. is_held_after project (through_step k journal)) (range_with_len steps (steps_of journal - steps))

-- ---- partial and complete

-- A journal is partial for the counts, one a lane, if it begins with its own lane's `mode run`; the rest is of the
-- script's lanes; each lane did the first of its actions, in order and in time; none was answered Held; the ticks come at the pace;
-- and processor steps beyond the script's come only while a CPS is open.
pub record IsPartial (project : Project) (script : Script) (counts : List ℕ) (journal : List Event) : Type 0 where
  pub opening : take 1 journal ≡ Act OWN_LANE ModeRun ∷ []
  pub rest : IsTrue (list_all (is_of_lane (length script.lanes)) (drop 1 journal))
  pub lanes : LanesDid journal counts script.lanes
  pub answers : IsTrue (list_all (λ x. not (is_held x)) (trace project journal))
  pub ticks : IsTrue (is_paced script.pace journal)
  pub steps : IsTrue (is_held_over project script.steps journal)

-- It is complete if each count is the lane's length, the script's steps were made, and no CPS is open at its end.
pub record IsComplete (project : Project) (script : Script) (journal : List Event) : Type 0 where
  pub partial : IsPartial project script (map (λ list. length list) script.lanes) journal
  pub enough : script.steps ≤ steps_of journal
  pub closed : IsFalse (is_held_after project journal)
