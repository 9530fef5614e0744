-- A word out of the parts.
use Rattle.lgx_core.proofs.Opened.{live, opened}
use Rattle.lgx_core.proofs.controller.Controller.word_out.Goals as goal

pub word_out-requires : goal.word_out-requires
word_out-requires c = rw c.deref.ensures (live c.self.inside.parts.value c.self.inside.spent c.self.invariant)

pub returns : goal.returns
returns c = λ s h. (rw c.deref.ensures at c.word_out.ensures) c.self.inside.spent s (opened c.self.inside.parts.value c.self.inside.spent c.args.self.now c.self.view_is s h).parts
