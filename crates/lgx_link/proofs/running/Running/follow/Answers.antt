use Rattle.std.proofs.Common.{◌∙◌, ℕ, List, ◌++◌, length, ap}
use Rattle.std.specs.Prelude.{flat_map}
use Rattle.spec_link.specs.declared.script.LinkAnswer.{LinkAnswer}
use Rattle.spec_link.specs.LinkOutput.{OfA, OfB, answer_lines, new_lines, written}
use Rattle.spec_link.specs.Links.{link_step}
use Rattle.lgx_watch.specs.Kept.{KeptLines}
use Rattle.lgx_link.proofs.Added.{added, gained_of_a, gained_of_b, on_ok}
use Rattle.lgx_link.proofs.running.Running.follow.Goals as goal

pub returns-clause-link : goal.returns-clause-link
returns-clause-link c = λ l s h.
    let y = link_step l s c.args.step.now in
    let v = c.args.self.now in
    let w = c.step.new.self in
    let g = c.in_ok-answer.ensures.link l s h in
    let told_a = c.lines-told_of_a.ensures.value ∙ ap (λ (log : KeptLines). length log.lines) c.log.ensures in
    let told_b = c.lines-told_of_b.ensures.value ∙ ap (λ (log : KeptLines). length log.lines) c.log-2.ensures in
    let of_a = gained_of_a v.a w.a l.a s.a y.link.a c.lines-told_of_a.result h.a g.link.a told_a in
    let of_b = gained_of_b v.b w.b l.b s.b y.link.b c.lines-told_of_b.result h.b g.link.b told_b in
    let old = c.args.text.now.items in
    let first = c.push_lines.new.text.items in
    let second = c.push_lines-2.new.text.items in
    let is_first = c.in_ok-push_lines.ensures ∙ ap (λ (t : List ℕ). old ++ t) of_a in
    let is_second = c.in_ok-push_lines-2.ensures ∙ ap (λ (t : List ℕ). first ++ t) of_b in
    on_ok c.push_answer.result
    (λ is. record {
      link = g.link;
      text = added old first second c.push_answer.new.text.items (new_lines OfA l.a s.a y.link.a) (new_lines OfB l.b s.b y.link.b) (answer_lines y.answer) is_first is_second (is ∙ ap (λ (a : LinkAnswer). second ++ flat_map written (answer_lines a)) g.answer_is);
    })
    c.push_answer.ensures
