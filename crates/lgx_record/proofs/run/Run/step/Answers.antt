use Rattle.std.proofs.Common.{◌+◌, [], ◌∷◌, refl, sym, ap, subst, arith}
use Rattle.spec_machine.specs.declared.event.Event.TheVariants.{Cpu}
use Rattle.lgx_record.specs.RunView.{RunView, run_view}
use Rattle.lgx_record.specs.IsRunOf.{IsRunOf}
use Rattle.lgx_record.specs.Extends.{Extends}
use Rattle.lgx_record.proofs.Taking.{few_steps, next_inside, next_compared, next_watched}
use Rattle.lgx_record.proofs.Events.{Closes}
use Rattle.lgx_record.proofs.Extending.{is-run-still}
use Rattle.lgx_record.proofs.Closing.{step-extends}
use Rattle.lgx_record.proofs.run.Run.step.Goals as goal

pub overflow_add-self : goal.overflow_add-self
overflow_add-self c =
    let old = run_view c.self.inside.controller c.self.inside.names c.self.inside.steps c.self.inside.watches c.self.inside.values.items in
    let few = few_steps old c.self.invariant in
    let spent = ap (λ (v : RunView). v.controller.spent) c.self.view_is in
    let room = c.requires.room in
    omega arith

pub close-requires : goal.close-requires
close-requires c =
    let old = run_view c.self.inside.controller c.self.inside.names c.self.inside.steps c.self.inside.watches c.self.inside.values.items in
    record {
      inside = next_inside old c.self.invariant Cpu c.cpu-moment.new.self (c.cpu-moment.ensures.step _ c.self.invariant.run.controller.represents).represents;
      are_watched = next_watched old c.self.invariant c.cpu-moment.new.self.parts.image c.cpu-moment.ensures.only_marked;
      compared = next_compared old c.self.invariant c.cpu-moment.new.self.parts.image c.cpu-moment.ensures.only_marked;
      room = (let few = c.requires.lost in let begin = c.log_begin.ensures.lost in let fault = c.log_fault.ensures.lost in omega arith);
    }

pub invariant_of-self : goal.invariant_of-self
invariant_of-self c =
    let old = run_view c.self.inside.controller c.self.inside.names c.self.inside.steps c.self.inside.watches c.self.inside.values.items in
    let new = run_view c.close.new.controller c.self.inside.names (c.self.inside.steps + 1) c.self.inside.watches c.close.new.values.items in
    let closes : Closes old new c.cpu-moment.new.self c.log_fault.new.log c.close.new.log c.stamp-at.result = record {
      tick = c.stamp-at.ensures.tick;
      step_is = c.stamp-at.ensures.step;
      compared = c.close.ensures.compared;
      represents = c.close.ensures.represents;
      spent = c.close.ensures.spent;
      watched = c.close.ensures.watched;
      none_hit = c.close.ensures.none_hit;
      names = refl;
      places = refl;
    } in
    let extends : Extends old new c.args.log.now c.close.new.log (Cpu ∷ []) =
    step-extends old new c.cpu-moment.new.self c.args.log.now c.log_begin.new.log c.log_fault.new.log c.close.new.log c.stamp-at.result closes c.cpu-moment.ensures.only_marked.same_watched
    c.cpu-moment.result c.cpu-moment.ensures.spent c.cpu-moment.ensures.step refl c.log_begin.ensures.log c.log_fault.ensures.log in
    is-run-still old new c.args.log.now c.close.new.log (Cpu ∷ []) c.self.invariant extends

pub returns : goal.returns
returns c = λ project events f.
    let old = run_view c.self.inside.controller c.self.inside.names c.self.inside.steps c.self.inside.watches c.self.inside.values.items in
    let new = run_view c.close.new.controller c.self.inside.names (c.self.inside.steps + 1) c.self.inside.watches c.close.new.values.items in
    let closes : Closes old new c.cpu-moment.new.self c.log_fault.new.log c.close.new.log c.stamp-at.result = record {
      tick = c.stamp-at.ensures.tick;
      step_is = c.stamp-at.ensures.step;
      compared = c.close.ensures.compared;
      represents = c.close.ensures.represents;
      spent = c.close.ensures.spent;
      watched = c.close.ensures.watched;
      none_hit = c.close.ensures.none_hit;
      names = refl;
      places = refl;
    } in
    let extends : Extends old new c.args.log.now c.close.new.log (Cpu ∷ []) =
    step-extends old new c.cpu-moment.new.self c.args.log.now c.log_begin.new.log c.log_fault.new.log c.close.new.log c.stamp-at.result closes c.cpu-moment.ensures.only_marked.same_watched
    c.cpu-moment.result c.cpu-moment.ensures.spent c.cpu-moment.ensures.step refl c.log_begin.ensures.log c.log_fault.ensures.log in
    extends project events (subst (λ (v : RunView). IsRunOf v project events) (sym c.self.view_is) f)
