-- The script that it follows is the named one.
use Rattle.std.proofs.Common.{ap, ◌∙◌}
use Rattle.std.proofs.lemmas.Option.{same_Some}
use Rattle.spec_text.specs.Scripts.{Script}
use Rattle.lgx_shared.proofs.recorder_of.RecorderOfRecorded.least_steps.Goals as goal

pub returns-clause-is : goal.returns-clause-is
returns-clause-is g c = c.least_steps.ensures.is ∙ ap (λ (s : Script). s.steps) (same_Some c.self.inside.run.script g.I.Input.script c.self.invariant.made)
