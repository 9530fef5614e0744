use Rattle.std.proofs.Common.{take}
use Rattle.std.specs.Prelude.{IsTrue}
use Rattle.std.specs.List.{list_all}
use Rattle.lgx_journal.specs.Written.{is_kept_edit}
use Rattle.cmd_run.proofs.kept.show_edits.Given as goal

abbrev pub invariant-loop-edit : goal.invariant-loop-edit
invariant-loop-edit l = IsTrue (list_all is_kept_edit (take l.edit-index l.edits))
