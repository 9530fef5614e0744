use Rattle.std.proofs.Common.{None, ap}
use Rattle.lgx_steps.specs.PartsView.{view_of}
use Rattle.spec_machine.specs.declared.answer.What.{What}
use Rattle.spec_machine.specs.declared.answer.Mark.TheVariants as mark
use Rattle.spec_tables.specs.Tasks.{region_down}
use Rattle.lgx_steps.proofs.Regions.{at_most-down}
use Rattle.lgx_steps.proofs.States.{later, with-table}
use Rattle.lgx_steps.proofs.parts.ControllerParts.down.Goals as goal

pub returns-clause-gives : goal.returns-clause-gives
returns-clause-gives c = λ k n s h e. record {
  answers = ap (λ (w : What). record { what = w; mark = mark.Down; fault = None }) e;
  represents = later k _ (record s { table = region_down c.args.t s.table }) (with-table k (view_of c.args.self.now) s h c.region_down.new.self (region_down c.args.t s.table) (c.region_down.ensures.represents s.table h.table) c.region_down.ensures.defs (at_most-down k s.table c.args.t h.sane.regions));
}
