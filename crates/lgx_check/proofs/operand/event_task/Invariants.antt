use Rattle.std.proofs.Common.{◌≡◌, ℕ, ◌<◌, false, get_or}
use Rattle.std.specs.Prelude.{◌&&◌}
use Rattle.lgx_num.specs.Name.{same}
use Rattle.spec_language.specs.declared.names.TaskName.{TaskName}
use Rattle.lgx_check.proofs.operand.event_task.Given as goal

abbrev pub invariant-loop-number : goal.invariant-loop-number
invariant-loop-number l = (k : ℕ) (d : TaskName) → k < l.number → ((get_or l.tasks k d).event && same (get_or l.tasks k d).name l.text) ≡ false
