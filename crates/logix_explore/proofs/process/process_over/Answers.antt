use Rattle.lgx_process.proofs.Doing.{with_words, without_words}
use Rattle.logix_explore.proofs.process.process_over.Goals as goal

pub returns-in-Ok : goal.returns-in-Ok
returns-in-Ok g c =
    with_words _ _ _ _ _ _ _ c.in-Ok.ensures (rw c.deref.ensures.value at c.program.ensures.process, rw c.deref.ensures.value at c.program.ensures.explored)

pub returns-in-Err : goal.returns-in-Err
returns-in-Err g c = without_words _ _ _ _ _ _ c.number.ensures
