-- One event more: what it executes stands behind what was executed, and the version that it tells behind the others.
use Rattle.std.proofs.Common.{◌≡◌, ◌≤◌, List, [], ◌∷◌, ◌++◌, length, flat_map, Option, Some, None, sym, ap, ◌∙◌, append_assoc, append-nil, length-append, arith}
use Rattle.std.specs.Prelude.{option_map, option_to_list}
use Rattle.std.proofs.lemmas.Grind.{flat_map-append}
use Rattle.spec_machine.specs.declared.event.Event.{Event}
use Rattle.spec_machine.specs.declared.event.Event.TheVariants.{Cpu, Tick, Act}
use Rattle.spec_machine.specs.Machine.{TraceEntry, run, trace, event_of}
use Rattle.spec_machine.specs.Project.{Project}
use Rattle.lgx_steps.specs.declared.executing.Executed.{Executed}
use Rattle.lgx_steps.specs.Executing.{executed}
use Rattle.lgx_cover.specs.declared.version.Version.{Version}
use Rattle.lgx_cover.specs.Executions.{occurrence, latest, occurrences, begun_by, begins, executed_by, executed_after, executions}

-- ---- what is executed

after_more : (project : Project) (before es : List Event) (e : Event) → executed_after project before (es ++ e ∷ []) ≡ executed_after project before es ++ executed_by project (before ++ es) e
after_more project before [] e =
    append-nil (executed_by project before e) ∙ ap (λ b. executed_by project b e) (sym (append-nil before))
after_more project before (x ∷ es) e =
    let first = executed_by project before x in
    let next = before ++ x ∷ [] in
    let rest = executed_after project next es in
    ap (λ t. first ++ t) (after_more project next es e ∙ ap (λ b. rest ++ executed_by project b e) (append_assoc before (x ∷ []) es)) ∙ sym (append_assoc first rest (executed_by project (before ++ x ∷ es) e))

pub executions_more : (project : Project) (events : List Event) (e : Event) → executions project (events ++ e ∷ []) ≡ executions project events ++ executed_by project events e
executions_more project events e = after_more project [] events e

-- ---- each event executes at most one instruction

at_most_one : {A : Type 0} (o : Option A) → length (option_to_list o) ≤ 1
at_most_one None = omega arith
at_most_one (Some x) = omega arith

few_occurrences : (begun : List Version) (x : Option Executed) → length (occurrences begun x) ≤ 1
few_occurrences begun None = omega arith
few_occurrences begun (Some x) = at_most_one (option_map (occurrence x) (latest x.program begun))

few_by : (project : Project) (before : List Event) (e : Event) → length (executed_by project before e) ≤ 1
few_by project before Cpu = few_occurrences (begins project before) (executed (run project before))
few_by project before Tick = omega arith
few_by project before (Act lane a) = omega arith

few_after : (project : Project) (before es : List Event) → length (executed_after project before es) ≤ length es
few_after project before [] = omega arith
few_after project before (e ∷ es) =
    let one = few_by project before e in
    let rest = few_after project (before ++ e ∷ []) es in
    omega (arith, length-append (executed_by project before e) (executed_after project (before ++ e ∷ []) es))

pub few_executions : (project : Project) (events : List Event) → length (executions project events) ≤ length events
few_executions project events = few_after project [] events

-- ---- begins

pub begins_more : (project : Project) (events : List Event) (entry : TraceEntry) → trace project (events ++ event_of entry ∷ []) ≡ trace project events ++ entry ∷ []
    → begins project (events ++ event_of entry ∷ []) ≡ begins project events ++ begun_by entry
begins_more project events entry is =
    ap (λ t. flat_map begun_by t) is ∙ (flat_map-append begun_by (trace project events) (entry ∷ []) ∙ ap (λ t. begins project events ++ t) (append-nil (begun_by entry)))
