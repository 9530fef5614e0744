use Rattle.std.proofs.Common.{◌≡◌, ap, arith}
use Rattle.spec_text.specs.JournalText.{events_of}
use Rattle.lgx_journal.specs.Journals.{JournalView}
use Rattle.lgx_journal.specs.Runs.{runs_in}
use Rattle.lgx_journal.proofs.PutRuns.{few_places, places}
use Rattle.lgx_journal.proofs.journal.Journal.runs.Goals as goal

pub overflow_cast-result : goal.overflow_cast-result
overflow_cast-result c = omega (arith, few_places c.self.inside.acts.items c.self.inside.runs.items c.self.invariant.0)

pub returns : goal.returns
returns c =
    let acts = c.self.inside.acts.items in
    let rs = c.self.inside.runs.items in
    let seen : events_of (runs_in acts rs) ≡ c.args.self.now.events = ap (λ (v : JournalView). v.events) c.self.view_is in
    omega (arith, places acts rs c.args.self.now.events c.self.invariant.0 seen, c.len.ensures)
