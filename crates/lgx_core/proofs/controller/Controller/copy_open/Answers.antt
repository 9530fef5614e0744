-- The table of the parts represents the state's.
use Rattle.lgx_core.proofs.Opened.{opened}
use Rattle.lgx_core.proofs.controller.Controller.copy_open.Goals as goal

pub returns : goal.returns
returns c = λ s h. (rw c.deref.ensures at c.held.ensures) s.table (opened c.self.inside.parts.value c.self.inside.spent c.args.self.now c.self.view_is s h).parts.table
