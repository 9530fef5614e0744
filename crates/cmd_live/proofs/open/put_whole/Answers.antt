use Rattle.lgx_live.proofs.Saying.{says_flushed}
use Rattle.cmd_live.proofs.open.put_whole.Goals as goal

pub returns-in-Ok : goal.returns-in-Ok
returns-in-Ok g c = record {
  says = says_flushed c.flush.result _ _ _ _ c.in-Ok.ensures c.flush.ensures;
  written = c.flush.ensures.written;
}
