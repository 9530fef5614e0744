-- What a session is worth: it is a journal, and its report.
use Rattle.std.specs.Prelude.{◌≡◌, ◌≤◌, ℕ, List, [], ◌∷◌, ◌++◌, length, flat_map, map, codes, Ok, false}
use Rattle.std.specs.List.{list_any}
use Rattle.spec_base.specs.declared.limits.TheConstants.{MAX_REPORT_LINES}
use Rattle.spec_machine.specs.declared.event.Event.{Event}
use Rattle.spec_machine.specs.Project.{Project}
use Rattle.spec_machine.specs.Report.{Stamped, report_lines}
use Rattle.spec_text.specs.TextLines as text
use Rattle.spec_text.specs.JournalText.{IsWithin, journal_of}
use Rattle.spec_text.specs.ReportText.{names_of, report}
use Rattle.lgx_live.specs.Session.{Meaning, Skipped, Refused, Done, LiveLine, Reported, NotDone, meaning, events_done, no_line_yet, after_all, answers, is_last}
use Rattle.lgx_live.specs.Output.{live_line, last_line}

-- the lines that are done, after these events
abbrev pub with_done : Meaning → List ℕ → List (List ℕ) → List (List ℕ)
with_done Skipped l ls = ls
with_done (Refused code) l ls = ls
with_done (Done r) l ls = l ∷ ls

abbrev pub done_from : List Event → List (List ℕ) → List (List ℕ)
done_from events [] = []
done_from events (l ∷ ls) = with_done (meaning events l) l (done_from (events ++ events_done (meaning events l)) ls)

-- the events of all of them
abbrev pub session_events : List (List ℕ) → List Event
session_events lines = (after_all no_line_yet lines).events

-- the answers without the lines that weren't done
abbrev pub reported : List LiveLine → List Stamped
reported [] = []
reported (Reported line ∷ ls) = line ∷ reported ls
reported (NotDone fault ∷ ls) = reported ls

-- The lines that were done, and `end`: a text with these lines is a journal, if its events are within the limits of one; and if its
-- report cuts no line, the report is what was answered, without the lines that weren't done, and the end line.
pub record IsJournal (project : Project) (lines : List (List ℕ)) (bytes : List ℕ) : Type 0 where
  pub journal : journal_of bytes ≡ Ok (session_events lines)
  pub report : length (report_lines project (session_events lines)) ≤ MAX_REPORT_LINES → report project (session_events lines) ≡ flat_map (live_line (names_of project)) (map Reported (reported (answers project no_line_yet lines))) ++ last_line project (session_events lines)

abbrev pub SessionsAreJournals : Type 0
SessionsAreJournals = (project : Project) (lines : List (List ℕ)) (bytes : List ℕ) → list_any is_last lines ≡ false → IsWithin (session_events lines) → text.lines bytes ≡ done_from [] lines ++ codes "end" ∷ [] → IsJournal project lines bytes
