-- The tag's only writer acts.
use Rattle.std.proofs.Common.{refl, inl, inr}
use Rattle.test_cases.proofs.change_cases.writers_change_tags.Goals as goal

pub returns-clause-changes : goal.returns-clause-changes
returns-clause-changes c = λ h. cc h

pub returns-clause-writer : goal.returns-clause-writer
returns-clause-writer c = inr (inr (_, 0, refl, refl, refl))
