-- The field that was changed fails.
use Rattle.test_cases.proofs.project_cases.projects_are_invalid.Goals as goal

pub returns-clause-image : goal.returns-clause-image
returns-clause-image c = λ h. (let e = h.tags.image in absurd (cc e))

pub returns-clause-schedule : goal.returns-clause-schedule
returns-clause-schedule c = λ h. (let e = h.once in absurd (cc e))

pub returns-clause-trigger : goal.returns-clause-trigger
returns-clause-trigger c = λ h. (let e = h.triggers in absurd (cc e))
