-- What the parts execute next is what the state does.
use Rattle.lgx_core.proofs.Opened.{live, opened}
use Rattle.lgx_core.proofs.controller.Controller.executing.Goals as goal

pub executing-requires : goal.executing-requires
executing-requires c = rw c.deref.ensures (live c.self.inside.parts.value c.self.inside.spent c.self.invariant)

pub returns : goal.returns
returns c = λ s h. (rw c.deref.ensures at c.executing.ensures) c.self.inside.spent s (opened c.self.inside.parts.value c.self.inside.spent c.args.self.now c.self.view_is s h).parts
