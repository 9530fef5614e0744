use Rattle.std.proofs.Common.{◌≡◌, List, ◌++◌, length, replicate, sym, ap, subst, ◌∙◌, arith}
use Rattle.spec_machine.specs.declared.event.Event.{Event}
use Rattle.spec_machine.specs.declared.event.Event.TheVariants as event
use Rattle.spec_text.specs.JournalText.{events_of}
use Rattle.lgx_journal.specs.Journals.{JournalView}
use Rattle.lgx_journal.specs.declared.runs.Run.{Run}
use Rattle.lgx_journal.specs.declared.runs.Run.TheVariants.{Tick}
use Rattle.lgx_journal.specs.Runs.{runs_in, AreRuns}
use Rattle.lgx_journal.proofs.PutRuns.{count_put, put_fits, one_run}
use Rattle.lgx_journal.proofs.journal.Journal.add_ticks.Goals as goal

pub put_run-requires-clause-few : goal.put_run-requires-clause-few
put_run-requires-clause-few c =
    let acts = c.self.inside.acts.items in
    let rs = c.self.inside.runs.items in
    let seen : events_of (runs_in acts rs) ≡ c.args.self.now.events = ap (λ (v : JournalView). v.events) c.self.view_is in
    put_fits acts rs c.args.count (omega (arith, ap length seen, c.requires.few))

pub invariant_of-self : goal.invariant_of-self
invariant_of-self c =
    let acts = c.self.inside.acts.items in
    let rs = c.self.inside.runs.items in
    let seen : events_of (runs_in acts rs) ≡ c.args.self.now.events = ap (λ (v : JournalView). v.events) c.self.view_is in
    let put = count_put acts rs (Tick c.args.count) c.self.invariant.0 tt (one_run c.args.count c.requires.some) (omega (arith, ap length seen, c.requires.few)) in
    (subst (λ (xs : List Run). AreRuns acts xs) (sym c.put_run.ensures.items) put.are, c.self.invariant.1)

pub returns-clause-events : goal.returns-clause-events
returns-clause-events c =
    let acts = c.self.inside.acts.items in
    let rs = c.self.inside.runs.items in
    let seen : events_of (runs_in acts rs) ≡ c.args.self.now.events = ap (λ (v : JournalView). v.events) c.self.view_is in
    let put = count_put acts rs (Tick c.args.count) c.self.invariant.0 tt (one_run c.args.count c.requires.some) (omega (arith, ap length seen, c.requires.few)) in
    ap (λ (xs : List Run). events_of (runs_in acts xs)) c.put_run.ensures.items ∙ put.events ∙ ap (λ (es : List Event). es ++ replicate c.args.count event.Tick) seen
