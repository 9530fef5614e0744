-- How a reader's answer relates to what its definition says.
use Rattle.std.specs.Prelude.{ℕ, ◌+◌, List, ◌++◌, Result, Ok, Err, Bool, not, ◌||◌, nat_eq, nat_le, nat_lt, if◌then◌else◌, length, Option, Some, None}
use Rattle.spec_machine.specs.declared.event.Event.{Event}
use Rattle.spec_machine.specs.Events.{is_action}
use Rattle.spec_text.specs.declared.script.EventRun.{EventRun}
use Rattle.spec_text.specs.declared.script.JournalCode.{JournalCode}
use Rattle.spec_text.specs.declared.script.JournalFault.{JournalFault}
use Rattle.spec_text.specs.declared.script.Timed.{Timed}
use Rattle.spec_base.specs.declared.limits.TheConstants.{MAX_ACTIONS}
use Rattle.spec_text.specs.declared.script.JournalCode.TheVariants.{J2, J3, J4, J5}
use Rattle.spec_text.specs.Scripts.{Script, actions_in, last_tick}
use Rattle.spec_text.specs.ScriptText.{LaneAction, last_at, lanes_from}
use Rattle.spec_text.specs.TextLines.{lines}
use Rattle.spec_text.specs.JournalText.{Tally, events_of, refused, runs_from}
use Rattle.lgx_journal.specs.declared.error.JournalError.{JournalError}
use Rattle.lgx_journal.specs.declared.error.JournalError.TheVariants as whole
use Rattle.lgx_journal.specs.declared.error.LineError.{LineError}
use Rattle.lgx_journal.specs.declared.error.LineError.TheVariants as one

-- of a fault that is answered; running out of memory says nothing
abbrev pub IfLine : JournalError → (JournalFault → Type 0) → Type 0
IfLine (whole.Line fault) P = P fault
IfLine whole.Memory P = Unit {0}

abbrev pub IfCode : LineError → (JournalCode → Type 0) → Type 0
IfCode (one.Code code) P = P code
IfCode one.Memory P = Unit {0}

-- the error of a line, by its number
abbrev pub error_at : LineError → ℕ → JournalError
error_at (one.Code code) n = whole.Line (record { code = code; line = n })
error_at one.Memory n = whole.Memory

-- a run has an action once
abbrev pub is_single : EventRun → Bool
is_single r = not (is_action r.event) || nat_eq r.count 1

abbrev pub counts : ℕ → ℕ → ℕ → Tally
counts steps ticks actions = record { steps = steps; ticks = ticks; actions = actions }

abbrev pub lane_action : ℕ → Timed → LaneAction
lane_action lane timed = record { lane = lane; timed = timed }

-- the events of a tally
abbrev pub tally_events : Tally → ℕ
tally_events t = t.steps + t.ticks + t.actions

-- what is read of the later lines, after the events of the earlier ones
abbrev pub after_events : List Event → Result (List EventRun) JournalFault → Result (List Event) JournalFault
after_events es (Err fault) = Err fault
after_events es (Ok runs) = Ok (es ++ events_of runs)

-- what is read of a text, whose first line has this number, after these events with their tally
abbrev pub read_after : List Event → ℕ → Tally → List ℕ → Result (List Event) JournalFault
read_after es n t text = after_events es (runs_from n t (lines text))

-- the first cause for which an action may not come last in its lane
abbrev pub lane_fault : Script → ℕ → ℕ → Option JournalCode
lane_fault s lane at =
    if nat_lt lane (length s.lanes) then (if nat_lt (actions_in s) MAX_ACTIONS then (if nat_le at (last_tick s) then (if nat_le (last_at s lane) at then None else Some J5) else Some J3) else Some J4) else Some J2

-- what a script is from its first line on, by what this line says
abbrev pub first_read : ℕ → List (List ℕ) → Result Script JournalCode → Result Script JournalFault
first_read n ls (Err code) = refused n code
first_read n ls (Ok s) = lanes_from (n + 1) s ls
