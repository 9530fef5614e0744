-- Which runs a journal's text may have, and when it is read back.
use Rattle.std.specs.Prelude.{◌≡◌, ℕ, ◌-◌, ◌^◌, List, ◌++◌, ◌∷◌, [], flat_map, length, Bool, true, ◌&&◌, nat_le, nat_lt, ℤ, pos, neg_ℤ, int_le, codes, IsTrue}
use Rattle.std.specs.List.{list_all}
use Rattle.lgx_num.specs.Name.{is_name}
use Rattle.spec_base.specs.declared.limits.TheConstants.{OWN_LANE}
use Rattle.spec_machine.specs.Commands.{is_edit_count}
use Rattle.spec_machine.specs.EditText.{is_edit_text}
use Rattle.spec_machine.specs.declared.event.RungEdit.{RungEdit}
use Rattle.spec_machine.specs.declared.event.RungEdit.TheVariants.{Replace, Insert, Delete}
use Rattle.spec_machine.specs.declared.event.Action.{Action}
use Rattle.spec_machine.specs.declared.event.Action.TheVariants.{WordIn, WordOut, Accept, Test, Untest, Assemble, Cancel, ForceInstall, ForceEnable, ForceDisable, ForceRemove, ModeRun, ModeProgram, Clear}
use Rattle.spec_machine.specs.declared.event.Event.{Event}
use Rattle.spec_machine.specs.declared.event.Event.TheVariants.{Cpu, Tick, Act}
use Rattle.spec_text.specs.declared.script.EventRun.{EventRun}
use Rattle.spec_text.specs.TextLines.{line_of, lines}
use Rattle.spec_text.specs.JournalText.{event_words, events_of, is_line, text, IsWithin}
use Rattle.lgx_journal.specs.Journals.{is_run}

-- a number of 32 bits, unsigned
abbrev pub is_u32 : ℕ → Bool
is_u32 n = nat_lt n (2 ^ 32)

-- a number of 32 bits, signed
abbrev pub is_i32 : ℤ → Bool
is_i32 v = int_le (neg_ℤ (pos (2 ^ 31))) v && int_le v (pos (2 ^ 31 - 1))

-- ---- names, numbers and texts as their types keep them

-- an edit: its INDEX and its text
abbrev pub is_kept_edit : RungEdit → Bool
is_kept_edit (Replace index text) = is_u32 index && is_edit_text text
is_kept_edit (Insert index text) = is_u32 index && is_edit_text text
is_kept_edit (Delete index) = is_u32 index

-- an action: its names and numbers, and of an accept as many edits as it may have
abbrev pub is_kept_action : Action → Bool
is_kept_action (WordIn conn word value) = is_name conn && is_u32 word && is_i32 value
is_kept_action (WordOut conn word) = is_name conn && is_u32 word
is_kept_action (Accept a) = is_name a.program && is_name a.routine && is_edit_count (length a.edits) && list_all is_kept_edit a.edits
is_kept_action (Test program) = is_name program
is_kept_action (Untest program) = is_name program
is_kept_action (Assemble program) = is_name program
is_kept_action (Cancel program) = is_name program
is_kept_action (ForceInstall conn word mask value) = is_name conn && is_u32 word && is_i32 mask && is_i32 value
is_kept_action ForceEnable = true
is_kept_action ForceDisable = true
is_kept_action ForceRemove = true
is_kept_action ModeRun = true
is_kept_action ModeProgram = true
is_kept_action Clear = true

-- an event, whatever its lane
abbrev pub is_kept : Event → Bool
is_kept Cpu = true
is_kept Tick = true
is_kept (Act lane a) = is_kept_action a

-- ---- lanes, runs and texts

-- the lane of an action is at most the journal's own
abbrev pub has_lane : Event → Bool
has_lane Cpu = true
has_lane Tick = true
has_lane (Act lane a) = nat_le lane OWN_LANE

-- the same of each event of a journal
abbrev pub HasLanes : List Event → Type 0
HasLanes journal = IsTrue (list_all has_lane journal)

-- an event that comes `count` times
abbrev pub event_run : Event → ℕ → EventRun
event_run e count = record { event = e; count = count }

-- a run as its type keeps it
abbrev pub is_kept_run : EventRun → Bool
is_kept_run r = is_kept r.event && is_u32 r.count

-- its lane is at most the journal's own, and it comes at least once, an action once
abbrev pub is_placed : EventRun → Bool
is_placed r = has_lane r.event && is_run r

-- a run that a line may have
abbrev pub is_written : EventRun → Bool
is_written r = is_kept_run r && is_placed r

-- runs that a text may have, joined or not
abbrev pub AreWritten : List EventRun → Type 0
AreWritten runs = IsTrue (list_all is_written runs)

-- a line for each of these runs, and the line `end`
abbrev pub runs_text : List EventRun → List ℕ
runs_text runs = flat_map (λ r. line_of (event_words r.event r.count)) runs ++ codes "end" ++ 10 ∷ []

-- any runs with this text expand to the journal
abbrev pub HasOneReading : List Event → List ℕ → Type 0
HasOneReading journal bytes = (runs : List EventRun) → AreWritten runs → runs_text runs ≡ bytes → events_of runs ≡ journal

-- no other run has this line
abbrev pub IsLineOfOne : EventRun → List ℕ → Type 0
IsLineOfOne run bytes = (other : EventRun) → IsTrue (is_written other) → line_of (event_words other.event other.count) ≡ bytes → other ≡ run

-- no lane is above the journal's own, and the text is within the limits of a journal that is read
pub record IsReadable (journal : List Event) : Type 0 where
  pub lanes : HasLanes journal
  pub within : IsWithin journal
  pub lines : IsTrue (list_all is_line (lines (text journal)))
