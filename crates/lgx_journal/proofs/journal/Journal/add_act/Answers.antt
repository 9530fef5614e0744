use Rattle.std.proofs.Common.{◌≡◌, List, [], ◌∷◌, ◌++◌, length, refl, ap, ◌∙◌, arith}
use Rattle.spec_machine.specs.declared.event.Event.{Event}
use Rattle.spec_machine.specs.declared.event.Event.TheVariants.{Act}
use Rattle.spec_text.specs.JournalText.{events_of}
use Rattle.lgx_journal.specs.Journals.{JournalView}
use Rattle.lgx_journal.specs.Runs.{runs_in}
use Rattle.lgx_journal.proofs.PutRuns.{act_put_at, put_fits, few_acts}
use Rattle.lgx_journal.proofs.journal.Journal.add_act.Goals as goal

pub overflow_cast-number : goal.overflow_cast-number
overflow_cast-number c = omega (arith, few_acts c.self.inside.acts.items c.self.inside.runs.items c.self.invariant.0)

pub put_run-requires-clause-few : goal.put_run-requires-clause-few
put_run-requires-clause-few c =
    let acts = c.self.inside.acts.items in
    let rs = c.self.inside.runs.items in
    let seen : events_of (runs_in acts rs) ≡ c.args.self.now.events = ap (λ (v : JournalView). v.events) c.self.view_is in
    put_fits acts rs 1 (omega (arith, ap length seen, c.requires.few))

pub invariant_of-self : goal.invariant_of-self
invariant_of-self c =
    let acts = c.self.inside.acts.items in
    let rs = c.self.inside.runs.items in
    let seen : events_of (runs_in acts rs) ≡ c.args.self.now.events = ap (λ (v : JournalView). v.events) c.self.view_is in
    let number : c.len-number.result ≡ length acts = omega arith in
    let put = act_put_at acts c.push_reserved.new.self.items rs c.put_run.new.runs.items c.len-number.result (Act c.args.lane c.args.action) c.self.invariant.0 refl (omega (arith, ap length seen, c.requires.few)) c.push_reserved.ensures.items number c.put_run.ensures.items in
    (put.are, c.self.invariant.1)

pub returns-clause-events : goal.returns-clause-events
returns-clause-events c =
    let acts = c.self.inside.acts.items in
    let rs = c.self.inside.runs.items in
    let seen : events_of (runs_in acts rs) ≡ c.args.self.now.events = ap (λ (v : JournalView). v.events) c.self.view_is in
    let number : c.len-number.result ≡ length acts = omega arith in
    let put = act_put_at acts c.push_reserved.new.self.items rs c.put_run.new.runs.items c.len-number.result (Act c.args.lane c.args.action) c.self.invariant.0 refl (omega (arith, ap length seen, c.requires.few)) c.push_reserved.ensures.items number c.put_run.ensures.items in
    put.events ∙ ap (λ (es : List Event). es ++ Act c.args.lane c.args.action ∷ []) seen
