use Rattle.std.proofs.Common.{◌≡◌, ◌+◌, ◌∷◌, List, drop, ap, sym, ◌∙◌, subst, arith}
use Rattle.std.specs.Prelude.{slice_get}
use Rattle.std.proofs.lemmas.List.{drop_more}
use Rattle.spec_link.specs.declared.script.LinkStep.{LinkStep}
use Rattle.spec_link.specs.Links.{Link}
use Rattle.spec_link.specs.LinkOutput.{pair_of}
use Rattle.lgx_link.proofs.UnderWay.{IsUnderWay, followed, none_left, started}
use Rattle.lgx_link.proofs.whole.link_text.Goals as goal

pub loop-step-init : goal.loop-step-init
loop-step-init c =
    let begun = started c.in_ok-running.running c.new-text.result.items c.args.a c.args.b c.args.script.now c.in_ok-running.ensures c.new-text.ensures.items c.requires in
    subst (λ (xs : List LinkStep). IsUnderWay c.in_ok-running.running c.new-text.result.items c.args.a c.args.b c.args.script.now xs) (sym c.as_slice-step-items.ensures) begun

pub loop-step-preserved : goal.loop-step-preserved
loop-step-preserved c =
    let items = c.as_slice-step-items.result.now in
    let i = c.loop-step.step-index in
    let x = c.step-item.result in
    let left = drop (i + 1) items in
    let split : drop i items ≡ x ∷ left = drop_more items i x (omega arith) ∙ ap (λ (y : LinkStep). y ∷ left) (sym c.step-item.is) in
    let now = subst (λ (xs : List LinkStep). IsUnderWay c.loop-step.running c.loop-step.text.items c.args.a c.args.b c.args.script.now xs) split c.loop-step.invariant in
    let made = c.in_ok-follow.ensures in
    followed c.loop-step.running c.follow.new.self c.loop-step.text.items c.follow.new.text.items c.args.a c.args.b c.args.script.now x left now (made.link (pair_of c.args.a c.args.b c.args.script.now) now.state now.link) made.of_a made.of_b made.sends

pub returns-clause-text : goal.returns-clause-text
returns-clause-text c =
    let items = c.as_slice-step-items.result.now in
    let none = none_left items c.loop-step.step-index (omega arith) in
    let now = subst (λ (xs : List LinkStep). IsUnderWay c.loop-step.running c.loop-step.text.items c.args.a c.args.b c.args.script.now xs) none c.loop-step.invariant in
    c.in_ok-push_ends.ensures (pair_of c.args.a c.args.b c.args.script.now) now.state now.link ∙ now.text_is

pub returns-clause-range : goal.returns-clause-range
returns-clause-range c = λ k words at.
    let items = c.as_slice-step-items.result.now in
    let none = none_left items c.loop-step.step-index (omega arith) in
    let now = subst (λ (xs : List LinkStep). IsUnderWay c.loop-step.running c.loop-step.text.items c.args.a c.args.b c.args.script.now xs) none c.loop-step.invariant in
    now.link.range k words (ap (λ (s : Link). slice_get s.sent k) now.state_is ∙ at)
