-- Layer by layer, till none is left or one shows a line.
use Rattle.std.proofs.Common.{◌+◌, refl, sym, ◌∙◌, ap, subst, arith}
use Rattle.std.specs.Prelude.{IsTrue, vec_len}
use Rattle.std.proofs.lemmas.Bool.{eqb-true}
use Rattle.spec_text.specs.Scripts.{Script, is_script}
use Rattle.lgx_explore.proofs.Closing.{first_done, next_done, all_done, empty_done, step_stays, empty}
use Rattle.lgx_explore.proofs.Telling.{told_action, told_step, first_keeps, none_before, stays_among, pushed_first, ok_more}
use Rattle.lgx_explore.proofs.layers.explore.Goals as goal

pub returns-in-Err : goal.returns-in-Err
returns-in-Err g c = ok_more c.told.result _ _
    (λ f told p valid opened.
    let stands = g.N.Node.stands in
    let keeps = g.N.Node.keeps in
    let s = c.args.script.now in
    let q = c.args.question.now in
    let proper : IsTrue (is_script s) = subst (λ (x : Script). IsTrue (is_script x)) c.script.view_is c.script.invariant in
    let first = pushed_first c.new-nodes.result.items c.push.new.self.items c.args.opening c.in_ok-push.ensures.items c.new-nodes.ensures.items in
    told_action stands keeps s q p valid proper 0 c.close.new.nodes.items c.in-Err.halt.at 0 c.in-Err.halt.stop f refl
    (none_before stands keeps s q p valid proper)
    (c.in-Err.ensures.keep p 0 valid proper (first_keeps stands keeps s q p valid proper c.push.new.self.items c.args.opening first opened))
    c.in-Err.ensures.shown told) c.told.ensures

pub loop-steps-init : goal.loop-steps-init
loop-steps-init g c = (
  c.in-Ok.ensures.within,
  λ p valid opened.
      let stands = g.N.Node.stands in
      let keeps = g.N.Node.keeps in
      let s = c.args.script.now in
      let q = c.args.question.now in
      let proper : IsTrue (is_script s) = subst (λ (x : Script). IsTrue (is_script x)) c.script.view_is c.script.invariant in
      let first = pushed_first c.new-nodes.result.items c.push.new.self.items c.args.opening c.in_ok-push.ensures.items c.new-nodes.ensures.items in (
        first_done stands keeps s q p valid proper c.close.new.nodes.items c.args.opening
            (stays_among stands c.push.new.self.items c.close.new.nodes.items c.args.opening first c.in-Ok.ensures.adds) opened c.in-Ok.ensures.acted,
        c.in-Ok.ensures.keep p 0 valid proper (first_keeps stands keeps s q p valid proper c.push.new.self.items c.args.opening first opened),
      ),
)

pub returns-then-is_empty : goal.returns-then-is_empty
returns-then-is_empty g c = λ p valid opened.
    let proper : IsTrue (is_script c.args.script.now) = subst (λ (x : Script). IsTrue (is_script x)) c.script.view_is c.script.invariant in
    empty_done g.N.Node.stands g.N.Node.keeps c.args.script.now c.args.question.now p valid proper c.loop-steps.steps c.loop-steps.nodes.items (empty c.loop-steps.nodes.items (let n = eqb-true (vec_len c.loop-steps.nodes) 0 (sym c.is_empty.ensures ∙ c.if-is_empty.true) in omega arith))
    (c.loop-steps.invariant.1 p valid opened).0

pub returns-in-Err-next_nodes : goal.returns-in-Err-next_nodes
returns-in-Err-next_nodes g c = ok_more c.told_over.result _ _
    (λ f told p valid opened.
    let stands = g.N.Node.stands in
    let keeps = g.N.Node.keeps in
    let s = c.args.script.now in
    let q = c.args.question.now in
    let proper : IsTrue (is_script s) = subst (λ (x : Script). IsTrue (is_script x)) c.script.view_is c.script.invariant in
    let inv = c.loop-steps.invariant.1 p valid opened in
    told_step stands keeps s q p valid proper c.loop-steps.steps c.loop-steps.nodes.items (c.loop-steps.steps + 1) c.in-Err-next_nodes.over f refl inv.0.clear inv.1
    c.in-Err-next_nodes.ensures.shown told)
    c.told_over.ensures

pub returns-in-Err-close : goal.returns-in-Err-close
returns-in-Err-close g c = ok_more c.told-in-Err-close.result _ _
    (λ f told p valid opened.
    let stands = g.N.Node.stands in
    let keeps = g.N.Node.keeps in
    let s = c.args.script.now in
    let q = c.args.question.now in
    let proper : IsTrue (is_script s) = subst (λ (x : Script). IsTrue (is_script x)) c.script.view_is c.script.invariant in
    let inv = c.loop-steps.invariant.1 p valid opened in
    let k = c.loop-steps.steps in
    told_action stands keeps s q p valid proper (k + 1) c.close-in-loop-steps.new.nodes.items c.in-Err-close.halt.at (k + 1) c.in-Err-close.halt.stop f refl inv.0.clear
    (c.in-Err-close.ensures.keep p (k + 1) valid proper (c.in-Ok-next_nodes.ensures.keep p k valid proper inv.1))
    c.in-Err-close.ensures.shown told)
    c.told-in-Err-close.ensures

pub loop-steps-preserved : goal.loop-steps-preserved
loop-steps-preserved g c = (
  c.in-Ok-close.ensures.within,
  λ p valid opened.
      let stands = g.N.Node.stands in
      let keeps = g.N.Node.keeps in
      let s = c.args.script.now in
      let q = c.args.question.now in
      let proper : IsTrue (is_script s) = subst (λ (x : Script). IsTrue (is_script x)) c.script.view_is c.script.invariant in
      let inv = c.loop-steps.invariant.1 p valid opened in
      let k = c.loop-steps.steps in
      let made = c.in-Ok-next_nodes.next.items in
      let next = c.close-in-loop-steps.new.nodes.items in (
        next_done stands keeps s q p valid proper k c.loop-steps.nodes.items next inv.0
            (λ node among. step_stays stands keeps s q made next node c.in-Ok-close.ensures.adds
            (c.in-Ok-next_nodes.ensures.stepped node among))
            c.in-Ok-close.ensures.acted,
        c.in-Ok-close.ensures.keep p (k + 1) valid proper (c.in-Ok-next_nodes.ensures.keep p k valid proper inv.1),
      ),
)

pub returns : goal.returns
returns g c = λ p valid opened.
    let proper : IsTrue (is_script c.args.script.now) = subst (λ (x : Script). IsTrue (is_script x)) c.script.view_is c.script.invariant in
    let steps = ap (λ (x : Script). x.steps) c.script.view_is in
    all_done g.N.Node.stands g.N.Node.keeps c.args.script.now c.args.question.now p valid proper
    c.loop-steps.steps c.loop-steps.nodes.items (let a = c.loop-steps-test.false in omega arith) (c.loop-steps.invariant.1 p valid opened).0
