-- What a session writes.
use Rattle.std.specs.Prelude.{ℕ, List, [], ◌∷◌, ◌++◌, flat_map, codes, decimal}
use Rattle.spec_machine.specs.declared.event.Event.{Event}
use Rattle.spec_machine.specs.Project.{Project}
use Rattle.spec_machine.specs.Machine.{run}
use Rattle.spec_machine.specs.Report.{steps_of}
use Rattle.spec_text.specs.declared.script.JournalFault.{JournalFault}
use Rattle.spec_text.specs.TextLines.{line_of}
use Rattle.spec_text.specs.ReportText.{Names, names_of, line_text, end_text}
use Rattle.lgx_judge.specs.CauseLines.{journal_code}
use Rattle.lgx_live.specs.Session.{Point, no_line_yet, LiveLine, Reported, NotDone, answer, answers, after_all, lines_with}

-- a line that wasn't done: `line`, its code and its number
unfoldable pub refusal_line : JournalFault → List ℕ
refusal_line f = line_of (codes "line" ∷ journal_code f.code ∷ decimal f.line ∷ [])

abbrev pub live_line : Names → LiveLine → List ℕ
live_line names (Reported line) = line_text names line
live_line names (NotDone fault) = refusal_line fault

abbrev pub answer_text : Project → Point → List ℕ → List ℕ
answer_text project at line = flat_map (live_line (names_of project)) (answer project at line)

abbrev pub answers_text : Project → Point → List (List ℕ) → List ℕ
answers_text project at lines = flat_map (live_line (names_of project)) (answers project at lines)

-- the end line of the report; no line is lost
abbrev pub last_line : Project → List Event → List ℕ
last_line project events = end_text (run project events).tick (steps_of events) (run project events).mode 0

-- the answers to lines, none of which is `end`, and the end line
abbrev pub whole_output : Project → List (List ℕ) → List ℕ
whole_output project lines = answers_text project no_line_yet lines ++ last_line project (after_all no_line_yet lines).events

-- the text of the report's lines that come with more events
abbrev pub text_with : Project → List Event → List Event → List ℕ
text_with project events more = flat_map (line_text (names_of project)) (lines_with project events more)
