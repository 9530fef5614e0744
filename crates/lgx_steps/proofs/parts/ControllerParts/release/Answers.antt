use Rattle.lgx_steps.specs.PartsView.{view_of}
use Rattle.spec_tables.specs.Tasks.{release}
use Rattle.lgx_steps.proofs.Regions.{at_most-release}
use Rattle.lgx_steps.proofs.Releasing.{released-up, overlapped, inhibited, table-overlapped}
use Rattle.lgx_steps.proofs.States.{with-table}
use Rattle.lgx_steps.proofs.parts.ControllerParts.release.Goals as goal

pub leave_scan-requires-clause-live : goal.leave_scan-requires-clause-live
leave_scan-requires-clause-live c =
    let l = c.requires.live in
    record {
      events = l.events;
      state = record l.state { table = release c.args.t c.args.self.now.tick l.state.table };
      room = l.room;
      represents = with-table l.events (view_of c.args.self.now) l.state l.represents c.release-answer.new.self (release c.args.t c.args.self.now.tick l.state.table) (c.release-answer.ensures.represents l.state.table l.represents.table) c.release-answer.ensures.defs (at_most-release l.events l.state.table c.args.t c.args.self.now.tick l.represents.sane.regions);
    }

pub returns-in-Released-clause-gives : goal.returns-in-Released-clause-gives
returns-in-Released-clause-gives c = λ n s h.
    let T = release c.args.t c.args.self.now.tick s.table in
    let h₁ = with-table n (view_of c.args.self.now) s h c.release-answer.new.self T (c.release-answer.ensures.represents s.table h.table) c.release-answer.ensures.defs (at_most-release n s.table c.args.t c.args.self.now.tick h.sane.regions) in
    released-up n s c.args.t c.args.self.now.tick c.release-answer.result (c.release-answer.ensures.answer s.table h.table) (view_of c.leave_scan.new.self) c.in-Released.is h.tick (c.leave_scan.ensures.represents n (record s { table = T }) h₁)

pub returns-in-Overlap-clause-gives : goal.returns-in-Overlap-clause-gives
returns-in-Overlap-clause-gives c = λ n s h.
    let answers = c.release-answer.ensures.answer s.table h.table in
    let r = c.release-answer.ensures.represents s.table h.table in
    let f_is = c.overlap-fault.ensures s (table-overlapped n s c.args.t c.args.self.now.tick c.release-answer.result answers (view_of c.args.self.now) h c.release-answer.new.self r c.release-answer.ensures.defs c.in-Overlap.is) h.tick in
    overlapped n s c.args.t c.args.self.now.tick c.release-answer.result answers (view_of c.args.self.now) h c.release-answer.new.self r c.release-answer.ensures.defs c.overlap-fault.result c.note.new.self c.in-Overlap.is f_is (c.note.ensures.holds s.faults h.faults)

pub returns-in-Inhibited-clause-gives : goal.returns-in-Inhibited-clause-gives
returns-in-Inhibited-clause-gives c = λ n s h.
    inhibited n s c.args.t c.args.self.now.tick c.release-answer.result (c.release-answer.ensures.answer s.table h.table) (view_of c.args.self.now) h c.release-answer.new.self (c.release-answer.ensures.represents s.table h.table) c.release-answer.ensures.defs c.in-Inhibited.is
