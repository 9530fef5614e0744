-- The copy watches what the other does.
use Rattle.lgx_walker.proofs.Seeing.{copy_watches}
use Rattle.lgx_walker.proofs.walker.acted_on.Goals as goal

pub returns-in-None-clause-watches : goal.returns-in-None-clause-watches
returns-in-None-clause-watches c = λ p journal w.
    c.in_ok-line.ensures.watches p journal (copy_watches p journal c.args.watcher.now c.in_ok-after.after c.in_ok-after.ensures.controller c.in_ok-after.ensures.places w)
