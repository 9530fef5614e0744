-- It takes what its recording takes.
use Rattle.std.proofs.Common.{◌≡◌, ◌≤◌, List, [], ◌∷◌, ◌++◌, replicate, sym, ap, ◌∙◌, subst, arith}
use Rattle.std.specs.Prelude.{OnErr}
use Rattle.std.proofs.lemmas.Result.{on_ok_weaker}
use Rattle.spec_machine.specs.declared.event.Event.{Event}
use Rattle.spec_text.specs.declared.script.EventRun.{EventRun}
use Rattle.lgx_record.specs.Extends.{events_in}
use Rattle.lgx_record.specs.Records.{Records, RecordsMore, IsUnchanged}
use Rattle.lgx_shared.specs.RecorderView.{RecorderView}
use Rattle.lgx_shared.specs.Stages.{recorder_at}
use Rattle.lgx_shared.proofs.recorder.Recorder.apply.Goals as goal

pub apply-requires : goal.apply-requires
apply-requires c =
    let once = ap (λ (r : EventRun). r.count) c.single.ensures in
    let spent = ap (λ (v : RecorderView). v.recording.controller.spent) (ap recorder_at (sym c.in-Given.is) ∙ c.self.view_is) in
    let room = c.requires.room in
    omega arith

pub returns-clause-records : goal.returns-clause-records
returns-clause-records c = λ project events h.
    let this : events_in c.single.result ≡ c.args.event.now ∷ [] = ap (λ (r : EventRun). replicate r.count r.event) c.single.ensures in
    on_ok_weaker c.apply.result
    (λ (more : RecordsMore c.in-Given.recording c.apply.new.self (events_in c.single.result)). subst (λ (es : List Event). Records c.apply.new.self project (events ++ es)) this
    (more project events (subst (λ (v : RecorderView). Records v.recording project events) (sym (ap recorder_at (sym c.in-Given.is) ∙ c.self.view_is)) h)))
    c.apply.ensures.records

pub returns-clause-unchanged : goal.returns-clause-unchanged
returns-clause-unchanged c =
    subst (λ (v : RecorderView). OnErr c.apply.result (IsUnchanged v.recording c.apply.new.self)) (ap recorder_at (sym c.in-Given.is) ∙ c.self.view_is) c.apply.ensures.unchanged

pub returns-clause-room : goal.returns-clause-room
returns-clause-room c =
    subst (λ (v : RecorderView). OnErr c.apply.result (v.recording.journal.spare ≤ c.apply.new.self.journal.spare)) (ap recorder_at (sym c.in-Given.is) ∙ c.self.view_is) c.apply.ensures.room
