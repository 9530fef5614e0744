-- What a turn of a lane is to do, by the project, the script and the journal so far.
use Rattle.std.specs.Prelude.{ℕ, ◌+◌, ◌/◌, ◌%◌, List, [], ◌∷◌, length, count_by, slice_get, slice_index_or, Bool, not, ◌&&◌, nat_le, nat_eq, if◌then◌else◌, Option, Some, None, IsSomeAnd, IsTrue}
use Rattle.spec_base.specs.declared.limits.TheConstants.{MAX_IMAGE_BYTES}
use Rattle.spec_machine.specs.declared.event.Action.{Action}
use Rattle.spec_machine.specs.declared.event.Event.{Event}
use Rattle.spec_machine.specs.declared.event.Event.TheVariants.{Cpu, Tick, Act}
use Rattle.spec_machine.specs.Events.{is_tick, is_accept, steps_of}
use Rattle.spec_machine.specs.Project.{Project}
use Rattle.spec_machine.specs.Machine.{step, run}
use Rattle.spec_text.specs.declared.script.Timed.{Timed}
use Rattle.spec_text.specs.Scripts.{Script, actions_in}
use Rattle.spec_schedule.specs.Partial.{is_held_after, is_held, made_by}

-- ---- a lane's actions

-- the actions of a lane; none if the script has no such lane
abbrev pub lane_of : Script → ℕ → List Timed
lane_of script lane = slice_index_or script.lanes lane []

-- how many actions of a lane are in a journal
abbrev pub done_by : ℕ → List Event → ℕ
done_by lane journal = length (made_by lane 0 journal)

abbrev pub ticks_of : List Event → ℕ
ticks_of journal = count_by is_tick journal

-- the lane's next action, unless none is left
abbrev pub next_of : Script → List Event → ℕ → Option Timed
next_of script journal lane = slice_get (lane_of script lane) (done_by lane journal)

-- the machine would answer it Held
abbrev pub would_be_held : Project → List Event → ℕ → Action → Bool
would_be_held project journal lane action = is_held (step (run project journal) (Act lane action)).answer

-- its tick has come, and it wouldn't be held
abbrev pub is_due : Project → List Event → ℕ → Timed → Bool
is_due project journal lane t = nat_le t.at (ticks_of journal) && not (would_be_held project journal lane t.action)

abbrev pub if_due : Project → List Event → ℕ → Option Timed → Option Action
if_due project journal lane None = None
if_due project journal lane (Some t) = if is_due project journal lane t then Some t.action else None

-- the action that a turn of the lane is to make, if there is one
abbrev pub due_action : Project → Script → List Event → ℕ → Option Action
due_action project script journal lane = if_due project journal lane (next_of script journal lane)

-- the action at this place of the lane's list is an accept
abbrev pub IsAcceptAt : Script → ℕ → ℕ → Type 0
IsAcceptAt script lane index = IsSomeAnd (slice_get (lane_of script lane) index) (λ t. IsTrue (is_accept t.action))

-- ---- steps

-- the steps are spent: at least as many as the script wants were made, and no CPS is open
abbrev pub is_spent : Project → Script → List Event → Bool
is_spent project script journal = nat_le script.steps (steps_of journal) && not (is_held_after project journal)

-- the processor step with this number, and the tick after it if the pace divides the number
abbrev pub paced_step : ℕ → ℕ → List Event
paced_step pace number = if nat_eq (number % pace) 0 then Cpu ∷ Tick ∷ [] else Cpu ∷ []

-- ---- how much there can be

-- A CPS that is open after the script's steps has at most as many elements left as the image has bytes.
abbrev pub most_steps : Script → ℕ
most_steps script = script.steps + MAX_IMAGE_BYTES

-- the first `mode run`, the lanes' actions, the processor steps and the ticks
abbrev pub most_events : Script → ℕ
most_events script = 1 + (actions_in script + (most_steps script + most_steps script / script.pace))
