-- The edits before the index are read; what the others give follows.
use Rattle.std.proofs.Common.{◌≡◌, ◌++◌, Ok, length, map, drop}
use Rattle.spec_base.specs.FirstCause.{◌>>=◌}
use Rattle.spec_machine.specs.Edits.{changes_of}
use Rattle.lgx_edit.specs.Drafts.{change_kept, AreInRoutine}
use Rattle.lgx_edit.proofs.read.read_changes.Given as goal

abbrev pub invariant-loop-k : goal.invariant-loop-k
invariant-loop-k l = record {
  answer : changes_of 0 l.edits ≡ (changes_of l.k (drop l.k l.edits) >>= λ cs. Ok (map change_kept l.kept.items ++ cs));
  routine : AreInRoutine l.routine l.kept.items;
  count : length l.kept.items ≡ l.k;
}
