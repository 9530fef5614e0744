use Rattle.std.proofs.Common.{[], ◌∷◌, refl, sym, subst, arith}
use Rattle.spec_machine.specs.declared.event.Event.TheVariants.{Act}
use Rattle.lgx_record.specs.RunView.{RunView, run_view}
use Rattle.lgx_record.specs.IsRunOf.{IsRunOf}
use Rattle.lgx_record.specs.Extends.{Extends}
use Rattle.lgx_record.proofs.Taking.{next_inside, next_compared, next_watched}
use Rattle.lgx_record.proofs.Events.{Closes}
use Rattle.lgx_record.proofs.Extending.{is-run-still}
use Rattle.lgx_record.proofs.Closing.{act-extends}
use Rattle.lgx_record.proofs.run.Run.act.Goals as goal

pub close-requires : goal.close-requires
close-requires c =
    let old = run_view c.self.inside.controller c.self.inside.names c.self.inside.steps c.self.inside.watches c.self.inside.values.items in
    record {
      inside = next_inside old c.self.invariant (Act c.args.lane c.args.action.now) c.act.new.self (c.in_ok-outcome.ensures.step _ c.self.invariant.run.controller.represents).represents;
      are_watched = next_watched old c.self.invariant c.act.new.self.parts.image c.in_ok-outcome.ensures.only_marked;
      compared = next_compared old c.self.invariant c.act.new.self.parts.image c.in_ok-outcome.ensures.only_marked;
      room = (let few = c.requires.lost in let line = c.log_line.ensures.lost in let fault = c.log_fault.ensures.lost in omega arith);
    }

pub invariant_of-self-2 : goal.invariant_of-self-2
invariant_of-self-2 c =
    let old = run_view c.self.inside.controller c.self.inside.names c.self.inside.steps c.self.inside.watches c.self.inside.values.items in
    let new = run_view c.close.new.controller c.self.inside.names c.self.inside.steps c.self.inside.watches c.close.new.values.items in
    let closes : Closes old new c.act.new.self c.log_fault.new.log c.close.new.log c.stamp-at.result = record {
      tick = c.stamp-at.ensures.tick;
      step_is = c.stamp-at.ensures.step;
      compared = c.close.ensures.compared;
      represents = c.close.ensures.represents;
      spent = c.close.ensures.spent;
      watched = c.close.ensures.watched;
      none_hit = c.close.ensures.none_hit;
      names = refl;
      places = refl;
    } in
    let extends : Extends old new c.args.log.now c.close.new.log (Act c.args.lane c.args.action.now ∷ []) =
    act-extends old new c.act.new.self c.args.log.now c.log_line.new.log c.log_fault.new.log c.close.new.log c.stamp-at.result closes c.in_ok-outcome.ensures.only_marked.same_watched
    c.args.lane c.args.action.now c.in_ok-outcome.outcome c.in_ok-outcome.ensures.spent c.in_ok-outcome.ensures.step refl c.log_line.ensures.log c.log_fault.ensures.log in
    is-run-still old new c.args.log.now c.close.new.log (Act c.args.lane c.args.action.now ∷ []) c.self.invariant extends

pub returns-clause-takes : goal.returns-clause-takes
returns-clause-takes c = λ project events f.
    let old = run_view c.self.inside.controller c.self.inside.names c.self.inside.steps c.self.inside.watches c.self.inside.values.items in
    let new = run_view c.close.new.controller c.self.inside.names c.self.inside.steps c.self.inside.watches c.close.new.values.items in
    let closes : Closes old new c.act.new.self c.log_fault.new.log c.close.new.log c.stamp-at.result = record {
      tick = c.stamp-at.ensures.tick;
      step_is = c.stamp-at.ensures.step;
      compared = c.close.ensures.compared;
      represents = c.close.ensures.represents;
      spent = c.close.ensures.spent;
      watched = c.close.ensures.watched;
      none_hit = c.close.ensures.none_hit;
      names = refl;
      places = refl;
    } in
    let extends : Extends old new c.args.log.now c.close.new.log (Act c.args.lane c.args.action.now ∷ []) =
    act-extends old new c.act.new.self c.args.log.now c.log_line.new.log c.log_fault.new.log c.close.new.log c.stamp-at.result closes c.in_ok-outcome.ensures.only_marked.same_watched
    c.args.lane c.args.action.now c.in_ok-outcome.outcome c.in_ok-outcome.ensures.spent c.in_ok-outcome.ensures.step refl c.log_line.ensures.log c.log_fault.ensures.log in
    extends project events (subst (λ (v : RunView). IsRunOf v project events) (sym c.self.view_is) f)
