-- The versions tell it.
use Rattle.lgx_edit.proofs.HeldAlready.{if_some-both, if_none-then, held-again, held-other}
use Rattle.lgx_edit.proofs.edits.ProgramEdits.held_again.Goals as goal

pub returns-clause-held : goal.returns-clause-held
returns-clause-held c = if_some-both c.held_again.result c.held_again.ensures.held c.held_again.ensures.number
    (λ n held number. held-again c.self.inside c.args.self.now n c.self.invariant c.self.view_is held number)

pub returns-clause-other : goal.returns-clause-other
returns-clause-other c = if_none-then c.held_again.result c.held_again.ensures.other
    (λ apart. held-other c.self.inside c.args.self.now c.self.invariant c.self.view_is apart)
