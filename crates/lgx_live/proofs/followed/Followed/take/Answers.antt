use Rattle.std.proofs.Common.{◌≡◌, List, [], ◌∷◌, ◌++◌, replicate, ap, subst, arith}
use Rattle.std.proofs.lemmas.Result.{on_ok_weaker}
use Rattle.spec_machine.specs.declared.event.Event.{Event}
use Rattle.spec_text.specs.declared.script.EventRun.{EventRun}
use Rattle.lgx_watch.specs.Kept.{KeptLines}
use Rattle.lgx_record.specs.IsRunOf.{IsRunOf}
use Rattle.lgx_record.specs.Extends.{Extends, events_in}
use Rattle.lgx_live.proofs.Events.{event_kept}
use Rattle.lgx_live.proofs.followed.Followed.take.Goals as goal

pub take-requires : goal.take-requires
take-requires c =
    let spent = c.requires.2.controller.counted in
    let few = c.requires.3 in
    let once = ap (λ (r : EventRun). r.count) c.single.ensures in
    let empty = ap (λ (k : KeptLines). k.lost) c.clear.ensures in
    record { room = omega arith; lost = omega arith }

pub returns-clause-follows : goal.returns-clause-follows
returns-clause-follows c = λ project events h.
    let this : events_in c.single.result ≡ c.args.event.now ∷ [] = ap (λ (r : EventRun). replicate r.count r.event) c.single.ensures in
    on_ok_weaker c.take.result
    (λ (x : Extends c.args.self.now.run c.take.new.self c.clear.new.self c.take.new.log (events_in c.single.result)). subst (λ (es : List Event). IsRunOf c.take.new.self project (events ++ es)) this (x project events h).run)
    c.take.ensures.all

pub returns-clause-lines : goal.returns-clause-lines
returns-clause-lines c = λ project events h.
    let this : events_in c.single.result ≡ c.args.event.now ∷ [] = ap (λ (r : EventRun). replicate r.count r.event) c.single.ensures in
    on_ok_weaker c.take.result
    (λ (x : Extends c.args.self.now.run c.take.new.self c.clear.new.self c.take.new.log (events_in c.single.result)). event_kept project events c.args.event.now (events_in c.single.result) c.clear.new.self c.take.new.log h.controller.valid c.clear.ensures this (x project events h).log)
    c.take.ensures.all
