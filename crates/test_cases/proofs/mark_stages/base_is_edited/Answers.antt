-- Both compute.
use Rattle.std.proofs.Common.{refl}
use Rattle.test_cases.proofs.mark_stages.base_is_edited.Goals as goal

pub returns-clause-six : goal.returns-clause-six
returns-clause-six c = refl

pub returns-clause-late : goal.returns-clause-late
returns-clause-late c = refl
