use Rattle.std.proofs.Common.{Err, ◌∙◌, subst}
use Rattle.lgx_live.specs.Console.{Says}
use Rattle.lgx_live.proofs.Saying.{says_none, says_flushed}
use Rattle.lgx_live.proofs.turns.end.Goals as goal

pub returns-in-Err-clause-says : goal.returns-in-Err-clause-says
returns-in-Err-clause-says g c = λ project events h. says_none _ _

pub returns-in-Err-put-clause-says : goal.returns-in-Err-put-clause-says
returns-in-Err-put-clause-says g c = λ project events h.
    subst (λ t. Says (g.C.Console.seen c.args.console.now) (g.C.Console.seen c.put.new.self) t (Err c.in-Err-put.fault)) (c.deref.ensures.value ∙ c.in-Ok.ensures project events h) c.in-Err-put.ensures

pub returns-clause-says : goal.returns-clause-says
returns-clause-says g c = λ project events h.
    subst (λ t. Says (g.C.Console.seen c.args.console.now) (g.C.Console.seen c.flush.new.self) t c.flush.result) (c.deref.ensures.value ∙ c.in-Ok.ensures project events h)
    (says_flushed c.flush.result _ _ _ _ c.in-Ok-put.ensures c.flush.ensures)
