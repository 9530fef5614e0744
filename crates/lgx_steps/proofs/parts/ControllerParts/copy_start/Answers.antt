use Rattle.std.proofs.Common.{None, ap}
use Rattle.lgx_steps.specs.PartsView.{view_of}
use Rattle.spec_machine.specs.declared.answer.What.{What}
use Rattle.spec_machine.specs.declared.answer.Mark.TheVariants as mark
use Rattle.spec_tables.specs.Tasks.{set_copy}
use Rattle.lgx_steps.proofs.Regions.{at_most-copy}
use Rattle.lgx_steps.proofs.States.{later, with-table}
use Rattle.lgx_steps.proofs.parts.ControllerParts.copy_start.Goals as goal

pub returns-clause-gives : goal.returns-clause-gives
returns-clause-gives c = λ k n s h e. record {
  answers = ap (λ (w : What). record { what = w; mark = mark.CopyStart c.args.sync; fault = None }) e;
  represents = later k _ (record s { table = set_copy c.args.t c.args.sync s.table }) (with-table k (view_of c.args.self.now) s h c.set_copy.new.self (set_copy c.args.t c.args.sync s.table) (c.set_copy.ensures.represents s.table h.table) c.set_copy.ensures.defs (at_most-copy k s.table c.args.t c.args.sync h.sane.regions));
}
