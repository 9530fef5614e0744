-- The plan of `audit P T`: whether a trace keeps the laws of the schedule.
use Rattle.std.specs.Prelude.{◌≡◌, ℕ, List, [], ◌∷◌, length, Option, Some, None, Result, Ok, Err, codes, decimal}
use Rattle.spec_text.specs.TextLines.{line_of}
use Rattle.spec_schedule.specs.declared.trace.Table.{Table}
use Rattle.spec_schedule.specs.declared.trace.TraceEvent.{TraceEvent}
use Rattle.spec_schedule.specs.Legal.{Legal}
use Rattle.spec_schedule.specs.TraceView.{table_of}
use Rattle.lgx_answer.specs.declared.status.Verdict.TheVariants as verdict
use Rattle.lgx_answer.specs.Plan.{Plan, Say, Read, only}
use Rattle.lgx_judge.specs.Plans.{on_project}
use Rattle.lgx_audit.specs.declared.error.TraceCode.{TraceCode}
use Rattle.lgx_audit.specs.declared.error.TraceCode.TheVariants.{K1, K2}
use Rattle.lgx_audit.specs.declared.error.TraceFault.{TraceFault}
use Rattle.lgx_audit.specs.TraceReading.{trace_of}
use Rattle.lgx_audit.specs.Breaches.{Breach, breach, IsBreach}

-- ---- lines

-- the trace has this number of events, and none breaks a law
abbrev pub yes_line : ℕ → List ℕ
yes_line events = line_of (codes "yes" ∷ decimal events ∷ [])

-- the law, as `L1`, and the event that breaks it
abbrev pub no_line : Breach → List ℕ
no_line b = line_of (codes "no" ∷ (76 ∷ decimal b.law) ∷ decimal b.at ∷ [])

abbrev pub code_word : TraceCode → List ℕ
code_word K1 = codes "K1"
code_word K2 = codes "K2"

-- the code and the number of the line that is refused
abbrev pub trace_cause_line : TraceFault → List ℕ
trace_cause_line f = line_of (codes "trace" ∷ code_word f.code ∷ codes "line" ∷ decimal f.line ∷ [])

-- ---- the plan

-- Yes is said of a trace that is legal, and of no other; else its breach is named. That this is so is part of what may be written: a
-- text that says yes of another trace is none of these.
abbrev pub by_breach : Table → List TraceEvent → Option Breach → Plan
by_breach table trace None = Say verdict.Ok (λ text. (text ≡ yes_line (length trace)) × Legal table trace)
by_breach table trace (Some b) = Say verdict.Breach (λ text. (text ≡ no_line b) × IsBreach table trace b.law b.at)

-- what is said of a trace
abbrev pub judged : Table → List TraceEvent → Plan
judged table trace = by_breach table trace (breach table trace)

abbrev pub of_trace : (List TraceEvent → Plan) → Result (List TraceEvent) TraceFault → Plan
of_trace accepted (Err fault) = Say verdict.Script (only (trace_cause_line fault))
of_trace accepted (Ok trace) = accepted trace

-- what the bytes of a trace lead to: it is judged by the table, if it is a trace for it
abbrev pub on_trace : Table → List ℕ → Plan
on_trace table bytes = of_trace (judged table) (trace_of table bytes)

-- what the bytes of a project lead to: the trace is read
abbrev pub trace_next : List ℕ → List ℕ → Plan
trace_next t bytes = on_project (λ project. Read t (on_trace (table_of project))) bytes

abbrev pub audit_plan : List ℕ → List ℕ → Plan
audit_plan p t = Read p (trace_next t)
