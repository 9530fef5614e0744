-- The plan of `logix_laws P T`: whether a trace keeps the laws that the audit leaves out.
use Rattle.std.specs.Prelude.{◌≡◌, ℕ, List, [], ◌∷◌, length, Option, Some, None, codes, decimal}
use Rattle.spec_text.specs.TextLines.{line_of}
use Rattle.spec_schedule.specs.declared.trace.TraceEvent.{TraceEvent}
use Rattle.lgx_answer.specs.declared.status.Verdict.TheVariants as verdict
use Rattle.lgx_answer.specs.Plan.{Plan, Say, Read, only}
use Rattle.lgx_judge.specs.Plans.{on_project}
use Rattle.lgx_audit.specs.TraceReading.{trace_of}
use Rattle.lgx_laws.specs.declared.error.Law.{Law}
use Rattle.lgx_laws.specs.declared.error.Law.TheVariants.{Regions, Copies, Watchdogs, Releases, Starts, Triggers, Scans, Modes, Edits, Numbers}
use Rattle.lgx_laws.specs.Laws.{Roster, roster_of, KeepsAll, IsBreach, Breach, breach}
use Rattle.cmd_trace.specs.AuditPlan.{yes_line, of_trace}

-- ---- lines

abbrev pub law_word : Law → List ℕ
law_word Regions = codes "regions"
law_word Copies = codes "copies"
law_word Watchdogs = codes "watchdogs"
law_word Releases = codes "releases"
law_word Starts = codes "starts"
law_word Triggers = codes "triggers"
law_word Scans = codes "scans"
law_word Modes = codes "modes"
law_word Edits = codes "edits"
law_word Numbers = codes "numbers"

-- the law, and the event that breaks it
abbrev pub no_line : Breach → List ℕ
no_line b = line_of (codes "no" ∷ law_word b.law ∷ decimal b.at ∷ [])

-- ---- the plan

-- Yes is said of a trace that keeps all laws, and of no other; else the breach that it has is reported. That this is so is part of
-- what may be written.
abbrev pub by_breach : Roster → List TraceEvent → Option Breach → Plan
by_breach r trace None = Say verdict.Ok (λ text. (text ≡ yes_line (length trace)) × KeepsAll r trace)
by_breach r trace (Some b) = Say verdict.Breach (λ text. (text ≡ no_line b) × IsBreach r trace b.law b.at)

-- the answer to a trace
abbrev pub judged : Roster → List TraceEvent → Plan
judged r trace = by_breach r trace (breach r trace)

-- what the bytes of a trace lead to: it is judged, if it is a trace of the project
abbrev pub on_trace : Roster → List ℕ → Plan
on_trace r bytes = of_trace (judged r) (trace_of r.table bytes)

-- what the bytes of a project lead to: the trace is read
abbrev pub trace_next : List ℕ → List ℕ → Plan
trace_next t bytes = on_project (λ project. Read t (on_trace (roster_of project))) bytes

abbrev pub laws_plan : List ℕ → List ℕ → Plan
laws_plan p t = Read p (trace_next t)

-- ---- the words of the command line, which are the names of the two files

abbrev pub laws_usage : List ℕ
laws_usage = codes "usage: logix_laws P T\n"

abbrev pub plan_of : List (List ℕ) → Plan
plan_of (p ∷ t ∷ []) = laws_plan p t
plan_of _ = Say verdict.Usage (only laws_usage)
