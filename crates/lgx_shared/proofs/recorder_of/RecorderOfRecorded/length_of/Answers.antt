-- The script that it follows is the named one.
use Rattle.std.proofs.Common.{length, ap, ◌∙◌}
use Rattle.std.proofs.lemmas.Option.{same_Some}
use Rattle.spec_text.specs.Scripts.{Script}
use Rattle.spec_lanes.specs.Turns.{lane_of}
use Rattle.lgx_shared.proofs.recorder_of.RecorderOfRecorded.length_of.Goals as goal

pub returns-clause-is : goal.returns-clause-is
returns-clause-is g c = c.length_of.ensures.is ∙ ap (λ (s : Script). length (lane_of s c.args.lane)) (same_Some c.self.inside.run.script g.I.Input.script c.self.invariant.made)
