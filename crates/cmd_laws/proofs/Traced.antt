-- Of the traces that `logix trace` writes the program says yes.
use Rattle.std.proofs.Common.{◌≡◌, List, length, Option, None, Ok, Result, refl, sym, ◌∙◌, subst}
use Rattle.std.proofs.lemmas.List.{length-map}
use Rattle.spec_machine.specs.Machine.{trace}
use Rattle.spec_machine.specs.State.{start}
use Rattle.spec_schedule.specs.declared.trace.TraceEvent.{TraceEvent}
use Rattle.spec_schedule.specs.TraceView.{seen, table_of, view}
use Rattle.spec_valid.proofs.Given.{given_is_valid}
use Rattle.lgx_audit.specs.declared.error.TraceFault.{TraceFault}
use Rattle.lgx_audit.specs.TraceReading.{trace_of}
use Rattle.lgx_audit.specs.TraceText.{text_of}
use Rattle.lgx_audit.proofs.OwnTraces.{runs_pass_audit}
use Rattle.lgx_laws.specs.Laws.{Roster, roster_of, KeepsAll, Breach}
use Rattle.lgx_laws.proofs.Breaching.{none_is_kept}
use Rattle.lgx_laws.proofs.OwnTraces.{runs_keep_laws}
use Rattle.cmd_trace.specs.AuditPlan.{of_trace}
use Rattle.cmd_trace.specs.TraceLaws.{SaysYes}
use Rattle.cmd_trace.proofs.Going.{trace_length}
use Rattle.cmd_trace.proofs.JournalLanes.{journal_events, journal_lanes}
use Rattle.cmd_laws.specs.LawsPlan.{by_breach, judged, on_trace}
use Rattle.cmd_laws.specs.OwnTraces.{TracesSayYes}

says_yes : (r : Roster) (trace : List TraceEvent) → KeepsAll r trace → trace_of r.table (text_of trace) ≡ Ok trace → SaysYes (on_trace r (text_of trace)) (length trace)
says_yes r trace kept read =
    let told : Option Breach → Type 0 = λ b. SaysYes (by_breach r trace b) (length trace) in
    let as_read : Result (List TraceEvent) TraceFault → Type 0 = λ o. SaysYes (of_trace (judged r) o) (length trace) in
    subst as_read (sym read) (subst told (sym ((none_is_kept r trace).1 kept)) (record { yes = (refl, (refl, kept)); alone = λ said text says. (says.0, says.1.0) }))

pub traces_say_yes : TracesSayYes
traces_say_yes p j project journal is read =
    let valid = given_is_valid p project is in
    let many = length-map (trace project journal) (seen project) ∙ trace_length (start project) journal in
    let passes = runs_pass_audit project journal valid (journal_lanes j journal read) (journal_events j journal read) in
    subst (SaysYes (on_trace (roster_of project) (text_of (view project journal)))) many
    (says_yes (roster_of project) (view project journal) (runs_keep_laws project journal valid) passes.read)
