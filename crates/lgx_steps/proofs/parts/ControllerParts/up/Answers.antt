use Rattle.std.proofs.Common.{◌+◌, None, ap}
use Rattle.lgx_steps.specs.PartsView.{view_of}
use Rattle.spec_machine.specs.declared.answer.What.{What}
use Rattle.spec_machine.specs.declared.answer.Mark.TheVariants as mark
use Rattle.spec_tables.specs.Tasks.{region_up}
use Rattle.lgx_steps.proofs.Regions.{region-room, at_most-up}
use Rattle.lgx_steps.proofs.States.{later, with-table}
use Rattle.lgx_steps.proofs.parts.ControllerParts.up.Goals as goal

pub region_up-requires-clause-room : goal.region_up-requires-clause-room
region_up-requires-clause-room c =
    let l = c.requires.live in
    region-room c.args.self.now.table l.state.table c.args.t l.events l.represents.table l.represents.sane.regions l.room

pub returns-clause-gives : goal.returns-clause-gives
returns-clause-gives c = λ k n s h e. record {
  answers = ap (λ (w : What). record { what = w; mark = mark.Up; fault = None }) e;
  represents = with-table (k + 1) (view_of c.args.self.now) s (later k (view_of c.args.self.now) s h) c.region_up.new.self (region_up c.args.t s.table) (c.region_up.ensures.represents s.table h.table) c.region_up.ensures.defs (at_most-up k s.table c.args.t h.sane.regions);
}
