-- It follows the script whether it ran or not.
use Rattle.std.proofs.Common.{None, sym, subst}
use Rattle.lgx_shared.specs.RecorderView.{RecorderView}
use Rattle.lgx_shared.specs.ScriptRun.{as_recorder}
use Rattle.lgx_shared.specs.Follows.{Follows}
use Rattle.lgx_shared.proofs.Stages.{follows_still}
use Rattle.lgx_shared.proofs.recorder_of.RecorderOf.into_recorder.Goals as goal

pub returns-clause-follows : goal.returns-clause-follows
returns-clause-follows g c =
    subst (λ (v : RecorderView). Follows g.I.Input.project g.I.Input.script v) (sym c.closed.ensures)
    (follows_still g.I.Input.project g.I.Input.script (as_recorder c.self.inside.run) c.args.ran None c.self.invariant)
