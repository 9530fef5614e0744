use Rattle.std.proofs.Common.{replicate, ap, subst, arith}
use Rattle.spec_machine.specs.declared.event.Event.TheVariants.{Tick}
use Rattle.lgx_record.specs.RecordingView.{RecordingView, recording_of}
use Rattle.lgx_record.specs.Records.{RecordsMore, HasCounted}
use Rattle.lgx_record.proofs.Taking.{few_lost_by, few_events_by}
use Rattle.lgx_record.proofs.Extending.{records-more, is-recording-still, has-counted}
use Rattle.lgx_record.proofs.recording.Recording.take_ticks.Goals as goal

pub take_ticks-requires-clause-lost : goal.take_ticks-requires-clause-lost
take_ticks-requires-clause-lost c =
    let spent = ap (λ (v : RecordingView). v.controller.spent) c.self.view_is in
    let room = c.requires.room in
    few_lost_by (recording_of c.self.inside.run c.self.inside.journal c.self.inside.log) c.args.count c.self.invariant (omega arith)

pub add_ticks-requires-clause-few : goal.add_ticks-requires-clause-few
add_ticks-requires-clause-few c =
    let spent = ap (λ (v : RecordingView). v.controller.spent) c.self.view_is in
    let room = c.requires.room in
    few_events_by (recording_of c.self.inside.run c.self.inside.journal c.self.inside.log) c.args.count c.self.invariant (omega arith)

pub invariant_of-self : goal.invariant_of-self
invariant_of-self c =
    let old = recording_of c.self.inside.run c.self.inside.journal c.self.inside.log in
    let new = recording_of c.take_ticks.new.self c.add_ticks.new.self c.take_ticks.new.log in
    is-recording-still old new (replicate c.args.count Tick) c.self.invariant (records-more old new (replicate c.args.count Tick) c.take_ticks.ensures c.add_ticks.ensures.events)

pub returns-clause-records : goal.returns-clause-records
returns-clause-records c =
    let old = recording_of c.self.inside.run c.self.inside.journal c.self.inside.log in
    let new = recording_of c.take_ticks.new.self c.add_ticks.new.self c.take_ticks.new.log in
    subst (λ (v : RecordingView). RecordsMore v new (replicate c.args.count Tick)) c.self.view_is (records-more old new (replicate c.args.count Tick) c.take_ticks.ensures c.add_ticks.ensures.events)

pub returns-clause-counts : goal.returns-clause-counts
returns-clause-counts c =
    let old = recording_of c.self.inside.run c.self.inside.journal c.self.inside.log in
    let new = recording_of c.take_ticks.new.self c.add_ticks.new.self c.take_ticks.new.log in
    subst (λ (v : RecordingView). HasCounted v new (replicate c.args.count Tick)) c.self.view_is
    (has-counted old new (replicate c.args.count Tick) c.self.invariant (records-more old new (replicate c.args.count Tick) c.take_ticks.ensures c.add_ticks.ensures.events))
