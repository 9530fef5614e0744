-- Lines of processor steps and of ticks, one to nine digits each.
use Rattle.std.specs.Prelude.{◌≡◌, ℕ, ◌<◌, List, ◌∷◌, ◌++◌, false, Some, Ok, IsTrue}
use Rattle.spec_machine.specs.declared.event.Event.{Event}
use Rattle.spec_machine.specs.declared.event.Event.TheVariants.{Cpu, Tick}
use Rattle.spec_text.specs.declared.script.EventRun.{EventRun}
use Rattle.spec_text.specs.TextLines.{lines, is_skipped, unsigned_of}
use Rattle.spec_text.specs.JournalText.{Tally, with_run, is_allowed, is_end, read_line}
use Rattle.lgx_journal.specs.declared.counts.Counted.{Counted}
use Rattle.lgx_journal.specs.declared.counts.Counted.TheVariants.{Steps, Ticks}

-- the event that is counted
abbrev pub counted_event : Counted → Event
counted_event Steps = Cpu
counted_event Ticks = Tick

-- a number above 0 in digits, a line feed, and what comes after it
pub record IsCount (text after : List ℕ) (count : ℕ) : Type 0 where
  pub digits : List ℕ
  pub is : text ≡ digits ++ 10 ∷ after
  pub number : unsigned_of digits ≡ Some count
  pub some : 0 < count

-- the first line of a text says this run, and the others are those of the text after it
pub record IsFirstLine (text after : List ℕ) (run : EventRun) : Type 0 where
  pub line : List ℕ
  pub lines : lines text ≡ line ∷ lines after
  pub skipped : is_skipped line ≡ false
  pub end : is_end line ≡ false
  pub reads : (tally : Tally) → IsTrue (is_allowed (with_run tally run)) → read_line tally line ≡ Ok run
