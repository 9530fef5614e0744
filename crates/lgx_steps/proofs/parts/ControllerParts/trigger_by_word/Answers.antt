use Rattle.std.proofs.Common.{ℕ, Option, sym, ap, ◌∙◌, subst}
use Rattle.lgx_steps.specs.PartsView.{view_of}
use Rattle.spec_machine.specs.declared.answer.Outcome.{Outcome}
use Rattle.spec_machine.specs.declared.reply.Mode.TheVariants as mode
use Rattle.spec_machine.specs.declared.reply.Reply.TheVariants.{Done}
use Rattle.spec_tables.specs.declared.fault.Fault.{Fault}
use Rattle.spec_tables.specs.declared.task.Release.{Release}
use Rattle.spec_machine.specs.Releases.{released_mask, release_task}
use Rattle.spec_machine.specs.Actions.{triggers}
use Rattle.lgx_steps.specs.Gives.{ViewGives}
use Rattle.lgx_steps.proofs.parts.ControllerParts.trigger_by_word.Goals as goal

pub returns-in-Some-clause-gives : goal.returns-in-Some-clause-gives
returns-in-Some-clause-gives c = λ n s h.
    let t = c.in-Some.t in
    let r = c.release-released.result in
    let g = c.release-released.ensures.gives n s h in
    let v = view_of c.release-released.new.self in
    subst (λ (o : Option ℕ). ViewGives {A = Outcome} n v (record { reply = Done; fault = r.fault; released = c.released_mask.result }) (triggers s mode.Run o)) (sym c.in-Some.is) (record {
      answers = ap (λ (f : Option Fault). record { reply = Done; fault = f; released = c.released_mask.result }) g.fault ∙ ap (λ (m : ℕ). record { reply = Done; fault = (release_task t s).fault; released = m }) (c.released_mask.ensures ∙ ap (λ (a : Release). released_mask t a) g.answer);
      represents = g.represents;
    })
