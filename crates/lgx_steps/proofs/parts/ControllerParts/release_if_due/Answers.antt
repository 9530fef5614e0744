use Rattle.std.proofs.Common.{sym, ◌∙◌}
use Rattle.lgx_steps.specs.PartsView.{view_of}
use Rattle.lgx_steps.proofs.Reading.{many-tasks}
use Rattle.lgx_steps.proofs.Ticking.{gives-due, gives-not_due}
use Rattle.lgx_steps.proofs.parts.ControllerParts.release_if_due.Goals as goal

pub returns-then-due-clause-gives : goal.returns-then-due-clause-gives
returns-then-due-clause-gives c = λ n s h.
    gives-due n (view_of c.release-released.new.self) s c.args.t c.args.self.now.tick c.args.report c.noted.result c.release-released.result h.tick (sym (c.due.ensures s.table h.table) ∙ c.if-due.true) (c.release-released.ensures.gives n s h) c.noted.ensures.report

pub returns-then-due-clause-live : goal.returns-then-due-clause-live
returns-then-due-clause-live c =
    let l = c.requires.live in
    let g = c.release-released.ensures.gives l.events l.state l.represents in
    record { events = l.events; state = _; room = l.room; represents = g.represents }

pub returns-then-due-clause-tasks : goal.returns-then-due-clause-tasks
returns-then-due-clause-tasks c =
    let l = c.requires.live in
    let g = c.release-released.ensures.gives l.events l.state l.represents in
    many-tasks l.events (view_of c.release-released.new.self) _ g.represents ∙ (c.release-released.ensures.tasks ∙ sym (many-tasks l.events (view_of c.args.self.now) l.state l.represents))

pub returns-else-due-clause-gives : goal.returns-else-due-clause-gives
returns-else-due-clause-gives c = λ n s h. gives-not_due n (view_of c.args.self.now) s c.args.t c.args.self.now.tick c.args.report h.tick (sym (c.due.ensures s.table h.table) ∙ c.if-due.false) h
