-- What `run P S` writes.
use Rattle.std.specs.Prelude.{◌≡◌, ℕ, List, ◌++◌, Ok}
use Rattle.spec_machine.specs.declared.event.Event.{Event}
use Rattle.spec_machine.specs.Project.{Project}
use Rattle.spec_text.specs.declared.script.EventRun.{EventRun}
use Rattle.spec_text.specs.Scripts.{Script}
use Rattle.spec_text.specs.JournalText.{events_of, joined, journal_of, text}
use Rattle.spec_text.specs.ReportText.{report}
use Rattle.spec_schedule.specs.Partial.{IsComplete}
use Rattle.lgx_journal.specs.Written.{AreWritten, IsReadable, runs_text}

-- the journal's canonical text, and then its report on the project
abbrev pub run_text : Project → List Event → List ℕ
run_text project journal = text journal ++ report project journal

-- The journal can be read off the bytes, up to their first line `end`: its own runs of equal events are such as lines have, and
-- whatever runs have a text that the bytes begin with, they expand to this journal.
pub record BeginsWithOne (bytes : List ℕ) (journal : List Event) : Type 0 where
  pub written : AreWritten (joined journal)
  pub one : (runs : List EventRun) (rest : List ℕ) → AreWritten runs → runs_text runs ++ rest ≡ bytes → events_of runs ≡ journal

-- The text of a journal that is complete for the script on the project, and then the journal's report. No other journal is read
-- off it; and where this one is within the limits of a journal that is read, the whole text, read as a journal, is this journal.
pub record IsRunText (project : Project) (script : Script) (bytes : List ℕ) : Type 0 where
  pub journal : List Event
  pub complete : IsComplete project script journal
  pub is : bytes ≡ run_text project journal
  pub one : BeginsWithOne bytes journal
  pub read_back : IsReadable journal → journal_of bytes ≡ Ok journal
