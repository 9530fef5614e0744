-- The book's rungs are checked after an accept, refused or not.
use Rattle.std.proofs.Common.{[]}
use Rattle.test_edits.proofs.Checked.{accepted-checked}
use Rattle.test_edits.proofs.bench.Bench.accept.Goals as goal

pub invariant_of-self : goal.invariant_of-self
invariant_of-self c = record {
  sealed = c.self.invariant.sealed;
  checked = accepted-checked c.self.inside.tags.value.declarations [] c.self.inside.book c.accept.new.self c.self.invariant.checked
      c.args.lane c.args.command.now c.accept.result (rw c.deref.ensures at c.accept.ensures);
}
