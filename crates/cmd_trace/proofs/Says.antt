-- What is said of a trace, by what the audit finds.
use Rattle.std.proofs.Common.{◌≡◌, ℕ, List, length, Option, Some, None, Result, Ok, Err, refl, sym, ◌∙◌, ap, subst}
use Rattle.spec_schedule.specs.declared.trace.Table.{Table}
use Rattle.spec_schedule.specs.declared.trace.TraceEvent.{TraceEvent}
use Rattle.spec_schedule.specs.Legal.{Legal}
use Rattle.lgx_answer.specs.declared.status.Verdict.{Verdict}
use Rattle.lgx_answer.specs.declared.status.Verdict.TheVariants as verdict
use Rattle.lgx_answer.specs.Plan.{Says}
use Rattle.lgx_audit.specs.declared.error.TraceFault.{TraceFault}
use Rattle.lgx_audit.specs.TraceTable.{AreInTable}
use Rattle.lgx_audit.specs.TraceReading.{trace_of}
use Rattle.lgx_audit.specs.Breaches.{Breach, IsBreach, breach}
use Rattle.lgx_audit.proofs.Breaching.{none_is_legal, some_is_breach}
use Rattle.cmd_trace.specs.AuditPlan.{yes_line, no_line, trace_cause_line, by_breach, judged, of_trace, on_trace}

pub says_yes : (table : Table) (trace : List TraceEvent) (text : List ℕ) → AreInTable table trace → Legal table trace → text ≡ yes_line (length trace) → Says (judged table trace) verdict.Ok text
says_yes table trace text known legal is =
    let P : Option Breach → Type 0 = λ o. Says (by_breach table trace o) verdict.Ok text in
    subst P (sym ((none_is_legal table trace known).1 legal)) (refl, (is, legal))

pub says_no : (table : Table) (trace : List TraceEvent) (law at : ℕ) (text : List ℕ) → AreInTable table trace → IsBreach table trace law at → text ≡ no_line (record { law = law; at = at }) → Says (judged table trace) verdict.Breach text
says_no table trace law at text known broken is =
    let P : Option Breach → Type 0 = λ o. Says (by_breach table trace o) verdict.Breach text in
    subst P (sym ((some_is_breach table trace known (record { law = law; at = at })).1 broken)) (refl, (is, broken))

pub trace_says : (table : Table) (bytes : List ℕ) (trace : List TraceEvent) (said : Verdict) (text : List ℕ) → trace_of table bytes ≡ Ok trace → Says (judged table trace) said text → Says (on_trace table bytes) said text
trace_says table bytes trace said text is says =
    let P : Result (List TraceEvent) TraceFault → Type 0 = λ r. Says (of_trace (judged table) r) said text in
    subst P (sym is) says

pub trace_refused : (table : Table) (bytes : List ℕ) (fault : TraceFault) (text : List ℕ) → trace_of table bytes ≡ Err fault → text ≡ trace_cause_line fault → Says (on_trace table bytes) verdict.Script text
trace_refused table bytes fault text is line =
    let P : Result (List TraceEvent) TraceFault → Type 0 = λ r. Says (of_trace (judged table) r) verdict.Script text in
    subst P (sym is) (refl, line)
