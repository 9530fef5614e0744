use Rattle.std.proofs.Common.{[], ◌∷◌, refl, sym, subst, arith}
use Rattle.spec_machine.specs.declared.event.Event.TheVariants.{Tick}
use Rattle.lgx_record.specs.RunView.{RunView, run_view}
use Rattle.lgx_record.specs.IsRunOf.{IsRunOf}
use Rattle.lgx_record.specs.Extends.{Extends}
use Rattle.lgx_record.proofs.Taking.{next_inside, next_compared, next_watched}
use Rattle.lgx_record.proofs.Events.{Closes}
use Rattle.lgx_record.proofs.Extending.{is-run-still}
use Rattle.lgx_record.proofs.Closing.{tick-extends}
use Rattle.lgx_record.proofs.run.Run.tick.Goals as goal

pub close-requires : goal.close-requires
close-requires c =
    let old = run_view c.self.inside.controller c.self.inside.names c.self.inside.steps c.self.inside.watches c.self.inside.values.items in
    record {
      inside = next_inside old c.self.invariant Tick c.tick-report.new.self (c.tick-report.ensures.step _ c.self.invariant.run.controller.represents).represents;
      are_watched = next_watched old c.self.invariant c.tick-report.new.self.parts.image c.tick-report.ensures.only_marked;
      compared = next_compared old c.self.invariant c.tick-report.new.self.parts.image c.tick-report.ensures.only_marked;
      room = (let few = c.requires.lost in let faults = c.log_tick_faults.ensures.lost in omega arith);
    }

pub invariant_of-self : goal.invariant_of-self
invariant_of-self c =
    let old = run_view c.self.inside.controller c.self.inside.names c.self.inside.steps c.self.inside.watches c.self.inside.values.items in
    let new = run_view c.close.new.controller c.self.inside.names c.self.inside.steps c.self.inside.watches c.close.new.values.items in
    let closes : Closes old new c.tick-report.new.self c.log_tick_faults.new.log c.close.new.log c.stamp-at.result = record {
      tick = c.stamp-at.ensures.tick;
      step_is = c.stamp-at.ensures.step;
      compared = c.close.ensures.compared;
      represents = c.close.ensures.represents;
      spent = c.close.ensures.spent;
      watched = c.close.ensures.watched;
      none_hit = c.close.ensures.none_hit;
      names = refl;
      places = refl;
    } in
    let extends : Extends old new c.args.log.now c.close.new.log (Tick ∷ []) =
    tick-extends old new c.tick-report.new.self c.args.log.now c.args.log.now c.log_tick_faults.new.log c.close.new.log c.stamp-at.result closes c.tick-report.ensures.only_marked.same_watched
    c.tick-report.result c.tick-report.ensures.spent c.tick-report.ensures.step refl refl c.log_tick_faults.ensures.log in
    is-run-still old new c.args.log.now c.close.new.log (Tick ∷ []) c.self.invariant extends

pub returns-clause-takes : goal.returns-clause-takes
returns-clause-takes c = λ project events f.
    let old = run_view c.self.inside.controller c.self.inside.names c.self.inside.steps c.self.inside.watches c.self.inside.values.items in
    let new = run_view c.close.new.controller c.self.inside.names c.self.inside.steps c.self.inside.watches c.close.new.values.items in
    let closes : Closes old new c.tick-report.new.self c.log_tick_faults.new.log c.close.new.log c.stamp-at.result = record {
      tick = c.stamp-at.ensures.tick;
      step_is = c.stamp-at.ensures.step;
      compared = c.close.ensures.compared;
      represents = c.close.ensures.represents;
      spent = c.close.ensures.spent;
      watched = c.close.ensures.watched;
      none_hit = c.close.ensures.none_hit;
      names = refl;
      places = refl;
    } in
    let extends : Extends old new c.args.log.now c.close.new.log (Tick ∷ []) =
    tick-extends old new c.tick-report.new.self c.args.log.now c.args.log.now c.log_tick_faults.new.log c.close.new.log c.stamp-at.result closes c.tick-report.ensures.only_marked.same_watched
    c.tick-report.result c.tick-report.ensures.spent c.tick-report.ensures.step refl refl c.log_tick_faults.ensures.log in
    extends project events (subst (λ (v : RunView). IsRunOf v project events) (sym c.self.view_is) f)
