use Rattle.std.proofs.Common.{◌+◌, ◌-◌, ◌<◌, ◌^◌, replicate, refl, sym, ap, subst, arith}
use Rattle.spec_base.proofs.Lists.{each_map}
use Rattle.spec_machine.specs.Machine.{run}
use Rattle.spec_machine.specs.Report.{begin_lines}
use Rattle.spec_machine.specs.declared.event.Event.TheVariants.{Cpu}
use Rattle.lgx_record.specs.RunView.{RunView, run_view}
use Rattle.lgx_record.specs.IsRunOf.{IsRunOf}
use Rattle.lgx_record.specs.Extends.{Extends}
use Rattle.lgx_record.specs.EventLines.{with_event_lines}
use Rattle.lgx_record.proofs.Taking.{few_steps, next_compared, next_watched}
use Rattle.lgx_record.proofs.Events.{Closes}
use Rattle.lgx_record.proofs.Stretched.{few-begins, begins-below, stretch-inside}
use Rattle.lgx_record.proofs.Extending.{is-run-still}
use Rattle.lgx_record.proofs.Closing.{stretch-extends}
use Rattle.lgx_record.proofs.run.Run.stretch.Goals as goal

pub overflow_add-self : goal.overflow_add-self
overflow_add-self c =
    let old = run_view c.self.inside.controller c.self.inside.names c.self.inside.steps c.self.inside.watches c.self.inside.values.items in
    let few = few_steps old c.self.invariant in
    let spent = ap (λ (v : RunView). v.controller.spent) c.self.view_is in
    let most = c.stretch-made.ensures.most in
    let room = c.requires.room in
    omega arith

pub log_begins-requires : goal.log_begins-requires
log_begins-requires c =
    let old = run_view c.self.inside.controller c.self.inside.names c.self.inside.steps c.self.inside.watches c.self.inside.values.items in
    let i = c.self.invariant in
    let b = c.stretch-made.new.begins in
    let made = c.stretch-made.result in
    let g = c.stretch-made.ensures.step (run i.project i.events) i.run.controller.represents in
    let steps = few_steps old i in
    let spent = ap (λ (v : RunView). v.controller.spent) c.self.view_is in
    let from = c.stamp-from.ensures.step in
    let most = c.stretch-made.ensures.most in
    let room = c.requires.room in
    let lost = c.requires.lost in
    let few = few-begins c.stretch-made.new.self.parts.image.watched b made (run i.project i.events) g.is_stretch in
    record {
      room = omega arith;
      small = each_map (λ k. k < made.steps - 1) (λ k. c.stamp-from.result.step + k + 1 < 2 ^ 32) b.steps.items (λ k below. omega arith) (begins-below c.stretch-made.new.self.parts.image.watched b made (run i.project i.events) g.is_stretch);
    }

pub log_moment-requires : goal.log_moment-requires
log_moment-requires c =
    let few = few-begins c.stretch-made.new.self.parts.image.watched c.stretch-made.new.begins c.stretch-made.result (run c.self.invariant.project c.self.invariant.events) (c.stretch-made.ensures.step _ c.self.invariant.run.controller.represents).is_stretch in
    let lost = c.requires.lost in
    let most = c.stretch-made.ensures.most in
    let some = c.stretch-made.ensures.some in
    let begins = c.log_begins.ensures.lost in
    omega arith

pub close-requires : goal.close-requires
close-requires c =
    let old = run_view c.self.inside.controller c.self.inside.names c.self.inside.steps c.self.inside.watches c.self.inside.values.items in
    record {
      inside = stretch-inside old c.self.invariant c.stretch-made.result.steps c.stretch-made.new.self (c.stretch-made.ensures.step _ c.self.invariant.run.controller.represents).represents;
      are_watched = next_watched old c.self.invariant c.stretch-made.new.self.parts.image c.stretch-made.ensures.only_marked;
      compared = next_compared old c.self.invariant c.stretch-made.new.self.parts.image c.stretch-made.ensures.only_marked;
      room = (let few = c.requires.lost in let begins = few-begins c.stretch-made.new.self.parts.image.watched c.stretch-made.new.begins c.stretch-made.result (run c.self.invariant.project c.self.invariant.events) (c.stretch-made.ensures.step _ c.self.invariant.run.controller.represents).is_stretch in let most = c.stretch-made.ensures.most in let some = c.stretch-made.ensures.some in let a = c.log_begins.ensures.lost in let b = c.log_moment.ensures.lost in omega arith);
    }

pub invariant_of-self : goal.invariant_of-self
invariant_of-self c =
    let old = run_view c.self.inside.controller c.self.inside.names c.self.inside.steps c.self.inside.watches c.self.inside.values.items in
    let new = run_view c.close.new.controller c.self.inside.names (c.self.inside.steps + c.stretch-made.result.steps) c.self.inside.watches c.close.new.values.items in
    let closes : Closes old new c.stretch-made.new.self c.log_moment.new.log c.close.new.log c.stamp-at.result = record {
      tick = c.stamp-at.ensures.tick;
      step_is = c.stamp-at.ensures.step;
      compared = c.close.ensures.compared;
      represents = c.close.ensures.represents;
      spent = c.close.ensures.spent;
      watched = c.close.ensures.watched;
      none_hit = c.close.ensures.none_hit;
      names = refl;
      places = refl;
    } in
    let extends : Extends old new c.args.log.now c.close.new.log (replicate c.stretch-made.result.steps Cpu) =
    stretch-extends old new c.stretch-made.new.self c.log_begins.new.log (with_event_lines c.log_begins.new.log c.stamp-at.result (begin_lines c.stretch-made.result.last.what)) c.log_moment.new.log c.close.new.log c.stamp-at.result closes c.stretch-made.ensures.only_marked.same_watched
    c.args.log.now c.stamp-from.result c.stretch-made.new.begins c.stretch-made.result c.stretch-made.ensures.some c.stretch-made.ensures.step c.stamp-from.ensures.tick c.stamp-from.ensures.step c.log_begins.ensures.log c.stretch-made.ensures.spent refl refl c.log_moment.ensures.log in
    is-run-still old new c.args.log.now c.close.new.log (replicate c.stretch-made.result.steps Cpu) c.self.invariant extends

pub returns-clause-takes : goal.returns-clause-takes
returns-clause-takes c = λ project events f.
    let old = run_view c.self.inside.controller c.self.inside.names c.self.inside.steps c.self.inside.watches c.self.inside.values.items in
    let new = run_view c.close.new.controller c.self.inside.names (c.self.inside.steps + c.stretch-made.result.steps) c.self.inside.watches c.close.new.values.items in
    let closes : Closes old new c.stretch-made.new.self c.log_moment.new.log c.close.new.log c.stamp-at.result = record {
      tick = c.stamp-at.ensures.tick;
      step_is = c.stamp-at.ensures.step;
      compared = c.close.ensures.compared;
      represents = c.close.ensures.represents;
      spent = c.close.ensures.spent;
      watched = c.close.ensures.watched;
      none_hit = c.close.ensures.none_hit;
      names = refl;
      places = refl;
    } in
    let extends : Extends old new c.args.log.now c.close.new.log (replicate c.stretch-made.result.steps Cpu) =
    stretch-extends old new c.stretch-made.new.self c.log_begins.new.log (with_event_lines c.log_begins.new.log c.stamp-at.result (begin_lines c.stretch-made.result.last.what)) c.log_moment.new.log c.close.new.log c.stamp-at.result closes c.stretch-made.ensures.only_marked.same_watched
    c.args.log.now c.stamp-from.result c.stretch-made.new.begins c.stretch-made.result c.stretch-made.ensures.some c.stretch-made.ensures.step c.stamp-from.ensures.tick c.stamp-from.ensures.step c.log_begins.ensures.log c.stretch-made.ensures.spent refl refl c.log_moment.ensures.log in
    extends project events (subst (λ (v : RunView). IsRunOf v project events) (sym c.self.view_is) f)
