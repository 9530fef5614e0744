use Rattle.std.proofs.Common.{◌≡◌, ◌+◌, ◌≤◌, length}
use Rattle.std.specs.Option.{is_some}
use Rattle.spec_language.specs.OperandForm.{tokens, form}
use Rattle.lgx_tags.specs.FormStates.{completes}
use Rattle.lgx_tags.proofs.form.is_form.Given as goal

abbrev pub invariant-loop-part : goal.invariant-loop-part
invariant-loop-part l = record {
  reads : completes (tokens l.rest) l.state ≡ is_some (form l.text);
  room : l.state.depth + length l.rest ≤ length l.text;
}

abbrev pub decreases-loop-part : goal.decreases-loop-part
decreases-loop-part l = length l.rest
