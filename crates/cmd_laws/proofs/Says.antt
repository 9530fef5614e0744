-- What a trace is told, by what is judged of it.
use Rattle.std.proofs.Common.{◌≡◌, ℕ, List, length, Option, Result, Ok, Err, refl, sym, subst}
use Rattle.spec_schedule.specs.declared.trace.TraceEvent.{TraceEvent}
use Rattle.lgx_answer.specs.declared.status.Verdict.{Verdict}
use Rattle.lgx_answer.specs.declared.status.Verdict.TheVariants as verdict
use Rattle.lgx_answer.specs.Plan.{Says}
use Rattle.lgx_audit.specs.declared.error.TraceFault.{TraceFault}
use Rattle.lgx_audit.specs.TraceReading.{trace_of}
use Rattle.lgx_laws.specs.declared.error.Law.{Law}
use Rattle.lgx_laws.specs.Laws.{Roster, KeepsAll, Breach, IsBreach}
use Rattle.lgx_laws.proofs.Breaching.{none_is_kept, some_is_breach}
use Rattle.cmd_trace.specs.AuditPlan.{yes_line, trace_cause_line, of_trace}
use Rattle.cmd_laws.specs.LawsPlan.{no_line, by_breach, judged, on_trace}

pub says_yes : (r : Roster) (trace : List TraceEvent) (text : List ℕ) → KeepsAll r trace → text ≡ yes_line (length trace) → Says (judged r trace) verdict.Ok text
says_yes r trace text kept is =
    let P : Option Breach → Type 0 = λ o. Says (by_breach r trace o) verdict.Ok text in
    subst P (sym ((none_is_kept r trace).1 kept)) (refl, (is, kept))

pub says_no : (r : Roster) (trace : List TraceEvent) (law : Law) (at : ℕ) (text : List ℕ) → IsBreach r trace law at → text ≡ no_line (record { law = law; at = at }) → Says (judged r trace) verdict.Breach text
says_no r trace law at text broken is =
    let P : Option Breach → Type 0 = λ o. Says (by_breach r trace o) verdict.Breach text in
    subst P (sym ((some_is_breach r trace (record { law = law; at = at })).1 broken)) (refl, (is, broken))

pub trace_says : (r : Roster) (bytes : List ℕ) (trace : List TraceEvent) (said : Verdict) (text : List ℕ) → trace_of r.table bytes ≡ Ok trace → Says (judged r trace) said text → Says (on_trace r bytes) said text
trace_says r bytes trace said text is says =
    let P : Result (List TraceEvent) TraceFault → Type 0 = λ o. Says (of_trace (judged r) o) said text in
    subst P (sym is) says

pub trace_refused : (r : Roster) (bytes : List ℕ) (fault : TraceFault) (text : List ℕ) → trace_of r.table bytes ≡ Err fault → text ≡ trace_cause_line fault → Says (on_trace r bytes) verdict.Script text
trace_refused r bytes fault text is line =
    let P : Result (List TraceEvent) TraceFault → Type 0 = λ o. Says (of_trace (judged r) o) verdict.Script text in
    subst P (sym is) (refl, line)
