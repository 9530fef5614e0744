use Rattle.std.proofs.Common.{[], ◌∷◌, ◌++◌, sym, ap, ◌∙◌, subst, arith}
use Rattle.spec_machine.specs.declared.event.Action.{Action}
use Rattle.spec_machine.specs.declared.event.Event.TheVariants.{Act}
use Rattle.lgx_watch.specs.Kept.{KeptLines}
use Rattle.lgx_record.specs.RunView.{RunView}
use Rattle.lgx_record.specs.RecordingView.{RecordingView, recording_of}
use Rattle.lgx_record.specs.Records.{IsRecording, RecordsMore, HasCounted}
use Rattle.lgx_record.proofs.Taking.{few_lost_by, few_events_by}
use Rattle.lgx_record.proofs.Extending.{records-more, is-recording-still, has-counted, when-err}
use Rattle.lgx_record.proofs.recording.Recording.act.Goals as goal

pub act-requires-clause-lost : goal.act-requires-clause-lost
act-requires-clause-lost c =
    let spent = ap (λ (v : RecordingView). v.controller.spent) c.self.view_is in
    let room = c.requires.room in
    let few = few_lost_by (recording_of c.self.inside.run c.self.inside.journal c.self.inside.log) 1 c.self.invariant (omega arith) in
    omega arith

pub invariant_of-self : goal.invariant_of-self
invariant_of-self c =
    subst (λ (v : RunView). IsRecording (recording_of v c.self.inside.journal c.act.new.log)) (sym c.in_err-act.ensures.unchanged)
    (subst (λ (k : KeptLines). IsRecording (recording_of c.self.inside.run c.self.inside.journal k)) (sym c.in_err-act.ensures.no_line) c.self.invariant)

pub returns-in_err-act-clause-unchanged : goal.returns-in_err-act-clause-unchanged
returns-in_err-act-clause-unchanged c =
    when-err c.from_residual-in_err-act.result
    (ap (λ (v : RunView). recording_of v c.self.inside.journal c.act.new.log) c.in_err-act.ensures.unchanged
    ∙ ap (λ (k : KeptLines). recording_of c.self.inside.run c.self.inside.journal k) c.in_err-act.ensures.no_line
    ∙ c.self.view_is)

pub add_act-requires-clause-few : goal.add_act-requires-clause-few
add_act-requires-clause-few c =
    let spent = ap (λ (v : RecordingView). v.controller.spent) c.self.view_is in
    let room = c.requires.room in
    let few = few_events_by (recording_of c.self.inside.run c.self.inside.journal c.self.inside.log) 1 c.self.invariant (omega arith) in
    omega arith

pub invariant_of-self-2 : goal.invariant_of-self-2
invariant_of-self-2 c =
    let old = recording_of c.self.inside.run c.self.inside.journal c.self.inside.log in
    let new = recording_of c.act.new.self c.add_act.new.self c.act.new.log in
    let more = Act c.args.lane c.args.action.now ∷ [] in
    let journal = c.add_act.ensures.events ∙ ap (λ (a : Action). c.self.inside.journal.events ++ Act c.args.lane a ∷ []) c.in_ok-copy.ensures.same in
    is-recording-still old new more c.self.invariant (records-more old new more c.in_ok-act.ensures.takes journal)

pub returns-clause-records : goal.returns-clause-records
returns-clause-records c =
    let old = recording_of c.self.inside.run c.self.inside.journal c.self.inside.log in
    let new = recording_of c.act.new.self c.add_act.new.self c.act.new.log in
    let more = Act c.args.lane c.args.action.now ∷ [] in
    let journal = c.add_act.ensures.events ∙ ap (λ (a : Action). c.self.inside.journal.events ++ Act c.args.lane a ∷ []) c.in_ok-copy.ensures.same in
    subst (λ (v : RecordingView). RecordsMore v new more) c.self.view_is (records-more old new more c.in_ok-act.ensures.takes journal)

pub returns-clause-counts : goal.returns-clause-counts
returns-clause-counts c =
    let old = recording_of c.self.inside.run c.self.inside.journal c.self.inside.log in
    let new = recording_of c.act.new.self c.add_act.new.self c.act.new.log in
    let more = Act c.args.lane c.args.action.now ∷ [] in
    let journal = c.add_act.ensures.events ∙ ap (λ (a : Action). c.self.inside.journal.events ++ Act c.args.lane a ∷ []) c.in_ok-copy.ensures.same in
    subst (λ (v : RecordingView). HasCounted v new more) c.self.view_is
    (has-counted old new more c.self.invariant (records-more old new more c.in_ok-act.ensures.takes journal))
