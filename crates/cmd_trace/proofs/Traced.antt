-- The trace that the program writes is legal, and its audit says yes.
use Rattle.std.proofs.Common.{List, length, Option, Result, refl, sym, ◌∙◌, subst}
use Rattle.std.proofs.lemmas.List.{length-map}
use Rattle.spec_machine.specs.Machine.{trace}
use Rattle.spec_machine.specs.State.{start}
use Rattle.spec_schedule.specs.declared.trace.Table.{Table}
use Rattle.spec_schedule.specs.declared.trace.TraceEvent.{TraceEvent}
use Rattle.spec_schedule.specs.Legal.{Legal}
use Rattle.spec_schedule.specs.TraceView.{seen, table_of, view}
use Rattle.spec_valid.proofs.Given.{given_is_valid}
use Rattle.lgx_audit.specs.declared.error.TraceFault.{TraceFault}
use Rattle.lgx_audit.specs.Breaches.{Breach}
use Rattle.lgx_audit.specs.OwnTraces.{PassesAudit}
use Rattle.lgx_audit.specs.TraceText.{text_of}
use Rattle.lgx_audit.proofs.OwnTraces.{run_legal, runs_pass_audit}
use Rattle.cmd_trace.specs.AuditPlan.{by_breach, judged, of_trace, on_trace}
use Rattle.cmd_trace.specs.TraceLaws.{RunsAreLegal, SaysYes, TracesSayYes}
use Rattle.cmd_trace.proofs.Going.{trace_length}
use Rattle.cmd_trace.proofs.JournalLanes.{journal_events, journal_lanes}

pub runs_are_legal : RunsAreLegal
runs_are_legal bytes project journal is = run_legal project journal (given_is_valid bytes project is)

says_yes : (table : Table) (trace : List TraceEvent) → Legal table trace → PassesAudit table trace → SaysYes (on_trace table (text_of trace)) (length trace)
says_yes table trace legal h =
    let told : Option Breach → Type 0 = λ b. SaysYes (by_breach table trace b) (length trace) in
    let read : Result (List TraceEvent) TraceFault → Type 0 = λ r. SaysYes (of_trace (judged table) r) (length trace) in
    subst read (sym h.read) (subst told (sym h.lawful) (record { yes = (refl, (refl, legal)); alone = λ said text says. (says.0, says.1.0) }))

pub traces_say_yes : TracesSayYes
traces_say_yes p j project journal is read =
    let valid = given_is_valid p project is in
    let many = length-map (trace project journal) (seen project) ∙ trace_length (start project) journal in
    subst (SaysYes (on_trace (table_of project) (text_of (view project journal)))) many
    (says_yes (table_of project) (view project journal) (run_legal project journal valid) (runs_pass_audit project journal valid (journal_lanes j journal read) (journal_events j journal read)))
