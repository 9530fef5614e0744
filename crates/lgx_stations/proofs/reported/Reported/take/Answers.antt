use Rattle.std.proofs.Common.{◌≡◌, List, [], ◌∷◌, ◌++◌, replicate, ap, ◌∙◌, subst, arith}
use Rattle.std.proofs.lemmas.Result.{on_ok_weaker}
use Rattle.spec_machine.specs.declared.event.Event.{Event}
use Rattle.spec_machine.specs.Report.{report_lines}
use Rattle.spec_text.specs.declared.script.EventRun.{EventRun}
use Rattle.lgx_watch.specs.Kept.{KeptLines, kept_of}
use Rattle.lgx_record.specs.IsRunOf.{IsRunOf}
use Rattle.lgx_record.specs.Extends.{Extends, events_in}
use Rattle.lgx_record.proofs.FewLines.{events_have_few_lines}
use Rattle.lgx_record.proofs.Extending.{report-more}
use Rattle.lgx_stations.proofs.reported.Reported.take.Goals as goal

pub take-requires : goal.take-requires
take-requires c =
    let events = c.requires.1 in
    let h = c.requires.2 in
    let spent = h.run.controller.counted in
    let few = c.requires.3 in
    let once = ap (λ (r : EventRun). r.count) c.single.ensures in
    let lines = events_have_few_lines c.requires.0 events h.run.controller.valid in
    let lost = ap (λ (k : KeptLines). k.lost) h.log in
    record { room = omega arith; lost = omega arith }

pub returns : goal.returns
returns c = λ project events h.
    let this : events_in c.single.result ≡ c.args.event.now ∷ [] = ap (λ (r : EventRun). replicate r.count r.event) c.single.ensures in
    on_ok_weaker c.take.result
    (λ (x : Extends c.args.self.now.run c.take.new.self c.args.self.now.log c.take.new.log (events_in c.single.result)).
    let t = x project events h.run in
    record {
      run = subst (λ (es : List Event). IsRunOf c.take.new.self project (events ++ es)) this t.run;
      log =
          report-more c.take.new.self c.args.self.now.log c.take.new.log project events (events_in c.single.result) t h.log
          ∙ ap (λ (es : List Event). kept_of (report_lines project (events ++ es))) this;
    })
    c.take.ensures.all
