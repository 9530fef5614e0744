use Rattle.std.proofs.Common.{◌≡◌, ap, arith}
use Rattle.spec_text.specs.declared.script.EventRun.{EventRun}
use Rattle.spec_text.specs.JournalText.{events_of}
use Rattle.lgx_journal.specs.Journals.{JournalView}
use Rattle.lgx_journal.specs.Runs.{runs_in}
use Rattle.lgx_journal.proofs.PutRuns.{act_event, act_found}
use Rattle.lgx_journal.proofs.journal.Journal.event_at.Goals as goal

pub index-requires-in-Act : goal.index-requires-in-Act
index-requires-in-Act c =
    let acts = c.self.inside.acts.items in
    let rs = c.self.inside.runs.items in
    let es = c.args.self.now.events in
    let seen : events_of (runs_in acts rs) ≡ es = ap (λ (v : JournalView). v.events) c.self.view_is in
    omega (arith, act_found acts rs es c.args.i c.in-Act.number c.index.result.now c.self.invariant.0 seen c.requires c.index.ensures c.in-Act.is)

pub returns-in-Act : goal.returns-in-Act
returns-in-Act c = λ d.
    let acts = c.self.inside.acts.items in
    let rs = c.self.inside.runs.items in
    let es = c.args.self.now.events in
    let seen : events_of (runs_in acts rs) ≡ es = ap (λ (v : JournalView). v.events) c.self.view_is in
    ap (λ (r : EventRun). r.event) (act_event acts rs es c.args.i c.in-Act.number c.index.result.now c.index-in-Act.result.now d c.self.invariant.0 seen c.requires c.index.ensures c.in-Act.is c.index-in-Act.ensures)
