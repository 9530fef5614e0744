use Rattle.std.proofs.Common.{take}
use Rattle.std.specs.Prelude.{IsTrue}
use Rattle.std.specs.List.{list_all}
use Rattle.spec_text.specs.JournalText.{joined}
use Rattle.lgx_journal.specs.Written.{is_kept_run}
use Rattle.cmd_run.proofs.kept.show_kept.Given as goal

abbrev pub invariant-loop-i : goal.invariant-loop-i
invariant-loop-i l = IsTrue (list_all is_kept_run (take l.i (joined l.journal.events)))
