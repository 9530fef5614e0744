use Rattle.lgx_live.proofs.Saying.{says_flushed}
use Rattle.lgx_live.proofs.Points.{anyway}
use Rattle.lgx_live.proofs.turns.exchange.Goals as goal

pub returns-in-Ok : goal.returns-in-Ok
returns-in-Ok g c = record {
  says = λ project at h. says_flushed c.flush.result _ _ _ _ (c.in-Ok.ensures.says project at h) c.flush.ensures;
  goes_on = λ project at h. anyway c.flush.result _ (c.in-Ok.ensures.goes_on project at h);
  written = c.flush.ensures.written;
}
