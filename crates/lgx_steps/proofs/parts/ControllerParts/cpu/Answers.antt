use Rattle.std.proofs.Common.{◌<◌, sym, ◌∙◌, subst, arith}
use Rattle.lgx_steps.specs.PartsView.{view_of}
use Rattle.lgx_steps.proofs.Reading.{many-tasks}
use Rattle.lgx_steps.proofs.Stretching.{one-made, begin-made, idle-gives, scan-made}
use Rattle.lgx_steps.proofs.parts.ControllerParts.cpu.Goals as goal

pub returns-in-None-clause-gives : goal.returns-in-None-clause-gives
returns-in-None-clause-gives c = λ n s h.
    one-made n (view_of c.args.self.now) (record { steps = 1; last = c.plainly.result }) s (omega arith) (omega arith)
    (idle-gives n 1 (view_of c.args.self.now) s c.plainly.result (c.in-None.ensures.represents s.table h.table) c.plainly.ensures h)

pub returns-in-None-advance_scan_on-clause-gives : goal.returns-in-None-advance_scan_on-clause-gives
returns-in-None-advance_scan_on-clause-gives c = λ n s h.
    begin-made n (view_of c.begin.new.self) (view_of c.advance_scan_on.new.self) c.begin.result s c.in-Some.t (sym (c.in-Some.ensures.represents s.table h.table)) (c.in-None-advance_scan_on.ensures.done n s h) c.begin.ensures.gives

pub returns-in-Some-advance_scan_on-clause-gives : goal.returns-in-Some-advance_scan_on-clause-gives
returns-in-Some-advance_scan_on-clause-gives c = λ n s h.
    let stops = c.in-Some-advance_scan_on.ensures.stops in
    let known = subst (λ k. c.in-Some.t < k) (many-tasks n (view_of c.args.self.now) s h ∙ (h.progresses ∙ sym h.sane.progresses)) c.in-Some.ensures.known in
    scan-made n (view_of c.after_effect.new.self) (view_of c.advance_scan_on.new.self) c.after_effect.result s c.in-Some.t known (sym (c.in-Some.ensures.represents s.table h.table)) c.after_effect.ensures.image
    c.in-Some-advance_scan_on.run' stops.some stops.most_are (c.in-Some-advance_scan_on.ensures.done n s h) c.after_effect.ensures.gives
