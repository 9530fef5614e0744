-- One event more of a run whose executions are counted.
use Rattle.std.proofs.Common.{◌≡◌, ◌<◌, List, [], ◌∷◌, ◌++◌, length, Option, refl, sym, ap, ◌∙◌, subst, subst₂, append-nil, arith}
use Rattle.spec_base.specs.declared.limits.TheConstants.{MAX_EVENTS}
use Rattle.spec_machine.specs.declared.answer.Moment.{Moment}
use Rattle.spec_machine.specs.declared.event.Event.{Event}
use Rattle.spec_machine.specs.declared.event.Event.TheVariants.{Cpu}
use Rattle.spec_machine.specs.Machine.{TraceEntry, OfStep, run, event_of}
use Rattle.spec_machine.specs.Project.{Project}
use Rattle.lgx_steps.specs.declared.executing.Executed.{Executed}
use Rattle.lgx_steps.specs.Executing.{executed}
use Rattle.lgx_core.specs.Represents.{GoesOn}
use Rattle.lgx_cover.specs.declared.version.Version.{Version}
use Rattle.lgx_cover.specs.declared.coverage.Coverage.{Coverage}
use Rattle.lgx_cover.specs.Executions.{Occurrence, version_in, occurrences, begun_by, begins, executed_by, executions}
use Rattle.lgx_cover.specs.Tables.{KeepCounts}
use Rattle.lgx_cover.specs.Covers.{Covers, IsCoverage}
use Rattle.lgx_cover.proofs.Executed.{executions_more, begins_more, few_executions}

-- there are fewer executions than a controller can count, if it can count an event more
pub room_for_one : (c : Coverage) (i : IsCoverage c) → c.controller.spent < MAX_EVENTS → length (executions i.project i.events) < MAX_EVENTS
room_for_one c i room =
    let counted = i.covers.controller.counted in
    let few = few_executions i.project i.events in
    omega arith

-- an event whose answer is this, that executed and began what the tables took in
module _ (c d : Coverage) (project : Project) (events : List Event) (entry : TraceEntry) (h : Covers c project events) (goes : GoesOn c.controller d.controller entry) where
  pub covers_more : (vs : List Version) (os : List Occurrence) → begun_by entry ≡ vs → executed_by project events (event_of entry) ≡ os → KeepCounts d.tables (begins project events ++ vs) (executions project events ++ os) → Covers d project (events ++ event_of entry ∷ [])
  covers_more vs os begun done kept =
      let on = goes project events h.controller in
      let all_begun : begins project (events ++ event_of entry ∷ []) ≡ begins project events ++ vs = begins_more project events entry on.answers ∙ ap (λ t. begins project events ++ t) begun in
      let all_done : executions project (events ++ event_of entry ∷ []) ≡ executions project events ++ os = executions_more project events (event_of entry) ∙ ap (λ t. executions project events ++ t) done in
      record {
        controller = on.stands;
        tables = subst₂ (λ (vs : List Version) (os : List Occurrence). KeepCounts d.tables vs os) (sym all_begun) (sym all_done) kept;
      }

  -- it neither executed nor began anything, and the tables are as they were
  pub covers_quiet : begun_by entry ≡ [] → executed_by project events (event_of entry) ≡ [] → d.tables ≡ c.tables → Covers d project (events ++ event_of entry ∷ [])
  covers_quiet begun done same =
      covers_more [] [] begun done (subst₂ (λ (vs : List Version) (os : List Occurrence). KeepCounts d.tables vs os) (sym (append-nil (begins project events))) (sym (append-nil (executions project events))) (subst (λ t. KeepCounts t (begins project events) (executions project events)) (sym same) h.tables))

-- a processor step
pub covers_step : (c d : Coverage) (project : Project) (events : List Event) (x : Option Executed) (m : Moment) → Covers c project events → x ≡ executed (run project events) → GoesOn c.controller d.controller (OfStep m)
    → KeepCounts d.tables (begins project events ++ version_in m.what) (executions project events ++ occurrences (begins project events) x) → Covers d project (events ++ Cpu ∷ [])
covers_step c d project events x m h is goes kept =
    covers_more c d project events (OfStep m) h goes (version_in m.what) (occurrences (begins project events) x) refl (ap (occurrences (begins project events)) (sym is)) kept
