-- The book's rungs are checked after each command, refused or not.
use Rattle.std.proofs.Common.{[]}
use Rattle.spec_machine.specs.Edits.{test, untest, assemble, cancel}
use Rattle.lgx_edit.proofs.CheckedBooks.{test-keeps_checked, untest-keeps_checked, assemble-keeps_checked, cancel-keeps_checked}
use Rattle.test_edits.proofs.Checked.{left-checked}
use Rattle.test_edits.proofs.bench.Bench.edit.Goals as goal

pub invariant_of-self : goal.invariant_of-self
invariant_of-self c = record {
  sealed = c.self.invariant.sealed;
  checked = left-checked c.self.inside.tags.value.declarations [] c.self.inside.book c.test.new.self c.self.invariant.checked
      test c.args.lane c.in-Test.program c.test.result test-keeps_checked c.test.ensures;
}

pub invariant_of-self-in-Untest : goal.invariant_of-self-in-Untest
invariant_of-self-in-Untest c = record {
  sealed = c.self.invariant.sealed;
  checked = left-checked c.self.inside.tags.value.declarations [] c.self.inside.book c.untest.new.self c.self.invariant.checked
      untest c.args.lane c.in-Untest.program c.untest.result untest-keeps_checked c.untest.ensures;
}

pub invariant_of-self-in-Assemble : goal.invariant_of-self-in-Assemble
invariant_of-self-in-Assemble c = record {
  sealed = c.self.invariant.sealed;
  checked = left-checked c.self.inside.tags.value.declarations [] c.self.inside.book c.assemble.new.self c.self.invariant.checked
      assemble c.args.lane c.in-Assemble.program c.assemble.result assemble-keeps_checked c.assemble.ensures;
}

pub invariant_of-self-in-Cancel : goal.invariant_of-self-in-Cancel
invariant_of-self-in-Cancel c = record {
  sealed = c.self.invariant.sealed;
  checked = left-checked c.self.inside.tags.value.declarations [] c.self.inside.book c.cancel.new.self c.self.invariant.checked
      cancel c.args.lane c.in-Cancel.program c.cancel.result cancel-keeps_checked c.cancel.ensures;
}
