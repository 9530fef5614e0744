use Rattle.std.proofs.Common.{◌∙◌, sym, subst}
use Rattle.lgx_core.specs.ControllerView.{ControllerView}
use Rattle.lgx_core.specs.Represents.{StandsFor}
use Rattle.spec_link.specs.LinkOutput.{end_line}
use Rattle.lgx_judge.specs.ReportLines.{end_line as ended}
use Rattle.lgx_link.proofs.Added.{both_ends, end_is, on_ok}
use Rattle.lgx_link.proofs.running.Running.push_ends.Goals as goal

pub returns : goal.returns
returns c = λ l s h.
    let v = c.args.self.now in
    let stands_a = subst (λ (u : ControllerView). StandsFor l.a s.a u) (sym c.controller.ensures) h.a.controller in
    let stands_b = subst (λ (u : ControllerView). StandsFor l.b s.b u) (sym c.controller-2.ensures) h.b.controller in
    let of_a = end_is v.a l.a s.a c.end_of-of_a.result h.a (c.end_of-of_a.ensures l.a s.a stands_a (c.steps.ensures ∙ h.a.steps)) in
    let of_b = end_is v.b l.b s.b c.end_of-of_b.result h.b (c.end_of-of_b.ensures l.b s.b stands_b (c.steps-2.ensures ∙ h.b.steps)) in
    on_ok c.push_end-2.result
    (λ is. both_ends c.args.text.now.items c.push_end.new.text.items c.push_end-2.new.text.items (ended v.a.log c.end_of-of_a.result) (ended v.b.log c.end_of-of_b.result) (end_line l.a s.a) (end_line l.b s.b) c.in_ok-push_end.ensures is of_a of_b)
    c.push_end-2.ensures
