use Rattle.std.proofs.Common.{rules, ◌≤◌, ℕ, List, length, sym, ◌∙◌, subst}
use Rattle.spec_base.specs.declared.limits.TheConstants.{MAX_EVENTS}
use Rattle.spec_machine.specs.declared.event.Event.{Event}
use Rattle.spec_machine.specs.Project.{Project}
use Rattle.lgx_core.specs.Represents.{StandsFor}
use Rattle.cmd_stations.specs.declared.lines.NextLine.TheVariants.{Report}
use Rattle.spec_story.specs.Snapshots.{snapshots}
use Rattle.lgx_stations.specs.Asking.{ForAll}
use Rattle.cmd_stations.specs.Rest.{rest_of}
use Rattle.cmd_stations.specs.StationsText.{IsStationsText}
use Rattle.cmd_stations.proofs.StationTexts.{just_begun, is_stations_text}
use Rattle.cmd_stations.proofs.watched.watched_as.Goals as goal

pub watch_journal-requires-clause-new : goal.watch_journal-requires-clause-new
watch_journal-requires-clause-new g c = λ κs bounds. just_begun _ _ c.args.project _ c.requires.input.0 c.in_ok-run.ensures c.in_ok-log.ensures

pub watch_journal-requires-clause-few : goal.watch_journal-requires-clause-few
watch_journal-requires-clause-few g c = λ κs bounds. subst (λ (es : List Event). length es ≤ MAX_EVENTS) c.requires.input.1 c.requires.few

pub returns-clause-text : goal.returns-clause-text
returns-clause-text g c =
    let h = c.in_ok-readings.ensures.records in
    let project = g.I.JournalInput.project in
    let events = g.I.JournalInput.journal in
    let stands = subst (λ v. StandsFor project events v) (sym c.controller.ensures) h.run.controller in
    let end = c.end_of-end.ensures project events stands (c.steps.ensures ∙ h.run.steps) in
    let is =
    is_stations_text project events c.args.stations c.watch_journal.new.reported c.end_of-end.result c.in_ok-readings.readings.items c.in_ok-text.text.items
    h end (search rules) c.in_ok-readings.ensures.readings (search rules) in
    let text = rest_of c.watch_journal.new.reported c.end_of-end.result c.in_ok-text.text.items (Report 0) in
    let P : Project → Type 0 = λ p. IsStationsText p c.args.journal.now.events c.args.stations text in
    let Q : List Event → Type 0 = λ es. IsStationsText project es c.args.stations text in
    subst P (sym c.requires.input.0) (subst Q (sym c.requires.input.1) is)

pub returns-clause-asked : goal.returns-clause-asked
returns-clause-asked g c =
    let Asked : ℕ → ℕ → Type 0 = λ station n. g.G.Gate.asked c.args.gate.now station n in
    let P : Project → Type 0 = λ p. ForAll Asked c.args.stations (snapshots p c.args.journal.now.events) in
    let Q : List Event → Type 0 = λ es. ForAll Asked c.args.stations (snapshots g.I.JournalInput.project es) in
    subst P (sym c.requires.input.0) (subst Q (sym c.requires.input.1) c.in_ok-readings.ensures.asked)
