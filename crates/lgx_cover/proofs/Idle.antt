-- While no task is up, processor steps change nothing and execute nothing.
use Rattle.std.proofs.Common.{◌≡◌, ℕ, zero, suc, List, [], ◌∷◌, ◌++◌, flat_map, replicate, true, false, Option, Some, None, refl, sym, ap, ◌∙◌, subst, subst₂, append-nil, add-one}
use Rattle.std.proofs.lemmas.Grind.{flat_map-append}
use Rattle.spec_scan.specs.declared.bound.Effect.{Effect}
use Rattle.spec_scan.specs.declared.bound.Effect.TheVariants.{Ran, Up, Down, Trigger, CopyStart, Copied, Left, Minor, Major}
use Rattle.spec_scan.specs.Scan.{advance}
use Rattle.spec_tables.specs.Tasks.{chosen}
use Rattle.spec_machine.specs.declared.answer.What.TheVariants.{Idle}
use Rattle.spec_machine.specs.declared.event.Event.{Event}
use Rattle.spec_machine.specs.declared.event.Event.TheVariants.{Cpu}
use Rattle.spec_machine.specs.Machine.{run, trace, step}
use Rattle.spec_machine.specs.ProcessorStep.{task_of, with_progress, after_effect, scan_step, task_step, processor_step}
use Rattle.spec_machine.specs.Project.{Project}
use Rattle.spec_machine.specs.State.{State, Scan, Progress, progress_of, start}
use Rattle.spec_reach.proofs.Reached.{run_more}
use Rattle.lgx_steps.specs.Executing.{executed_of}
use Rattle.lgx_core.specs.Represents.{StandsFor}
use Rattle.lgx_core.proofs.Runs.{trace-more}
use Rattle.lgx_judge.proofs.Runs.{one_more}
use Rattle.lgx_cover.specs.declared.version.Version.{Version}
use Rattle.lgx_cover.specs.declared.coverage.Coverage.{Coverage}
use Rattle.lgx_cover.specs.Executions.{Occurrence, version_in, occurrences, begun_by, begins, executions}
use Rattle.lgx_cover.specs.Tables.{KeepCounts}
use Rattle.lgx_cover.specs.Covers.{Covers}
use Rattle.lgx_cover.proofs.Executed.{executions_more}

-- ---- a step that is idle

by_effect : (s : State) (t : ℕ) (p : Progress) (n : ℕ) (effect : Effect) → task_of (after_effect s t p n effect).answer.what ≡ Some t
by_effect s t p n Ran = refl
by_effect s t p n Up = refl
by_effect s t p n Down = refl
by_effect s t p n (Trigger other) = refl
by_effect s t p n (CopyStart sync) = refl
by_effect s t p n (Copied true sync) = refl
by_effect s t p n (Copied false sync) = refl
by_effect s t p n (Left true) = refl
by_effect s t p n (Left false) = refl
by_effect s t p n Minor = refl
by_effect s t p n (Major code) = refl

by_scan : (s : State) (t : ℕ) (p : Progress) (o : Option Scan) → task_of (scan_step s t p o).answer.what ≡ Some t
by_scan s t p None = refl
by_scan s t p (Some scan) =
    let a = advance scan.rungs scan.position s.image s.tick scan.first p.flags in
    let p' : Progress = record { ended = p.ended; scan = Some (record scan { position = a.position }); flags = a.flags } in
    by_effect (record (with_progress t p' s) { image = a.image }) t p' scan.program a.effect

by_task : (s : State) (o : Option ℕ) → task_of (task_step s o).answer.what ≡ o
by_task s None = refl
by_task s (Some t) = by_scan s t (progress_of s t) (progress_of s t).scan

-- no task was up
pub none_up : (s : State) → (processor_step s).answer.what ≡ Idle → chosen s.table ≡ None
none_up s is = sym (by_task s (chosen s.table)) ∙ ap task_of is

-- ---- the run after such steps

-- nothing changed, and nothing was executed
record IsQuiet (project : Project) (events after : List Event) : Type 0 where
  same : run project after ≡ run project events
  executed : executions project after ≡ executions project events
  begun : begins project after ≡ begins project events

quiet_one : (project : Project) (events : List Event) → chosen (run project events).table ≡ None → IsQuiet project events (events ++ Cpu ∷ [])
quiet_one project events none = record {
  same = run_more project events Cpu ∙ ap (λ (o : Option ℕ). (task_step (run project events) o).state) none;
  executed =
      executions_more project events Cpu
      ∙ (ap (λ (o : Option ℕ). executions project events ++ occurrences (begins project events) (executed_of (run project events) o)) none ∙ append-nil (executions project events));
  begun =
      ap (λ t. flat_map begun_by t) (trace-more (start project) events Cpu)
      ∙ (flat_map-append begun_by (trace project events) ((step (run project events) Cpu).answer ∷ [])
      ∙ (ap (λ (o : Option ℕ). begins project events ++ (version_in (task_step (run project events) o).answer.what ++ [])) none ∙ append-nil (begins project events)));
}

quiet_steps : (project : Project) (events : List Event) (n : ℕ) → chosen (run project events).table ≡ None → IsQuiet project events (events ++ replicate n Cpu)
quiet_steps project events zero none =
    subst (λ (es : List Event). IsQuiet project events es) (sym (append-nil events)) (record { same = refl; executed = refl; begun = refl })
quiet_steps project events (suc n) none =
    let before = quiet_steps project events n none in
    let last = quiet_one project (events ++ replicate n Cpu) (ap (λ (s : State). chosen s.table) before.same ∙ none) in
    let all : (events ++ replicate n Cpu) ++ Cpu ∷ [] ≡ events ++ replicate (suc n) Cpu = one_more events Cpu n ∙ ap (λ k. events ++ replicate k Cpu) (add-one n) in
    subst (λ (es : List Event). IsQuiet project events es) all (record {
      same = last.same ∙ before.same;
      executed = last.executed ∙ before.executed;
      begun = last.begun ∙ before.begun;
    })

-- no task is up still
pub none_up_still : (project : Project) (events : List Event) (n : ℕ) → chosen (run project events).table ≡ None → chosen (run project (events ++ replicate n Cpu)).table ≡ None
none_up_still project events n none =
    ap (λ (s : State). chosen s.table) (quiet_steps project events n none).same ∙ none

-- the tables need no change
pub covers_still : (c d : Coverage) (project : Project) (events : List Event) (n : ℕ) → Covers c project events → chosen (run project events).table ≡ None → StandsFor project (events ++ replicate n Cpu) d.controller → d.tables ≡ c.tables → Covers d project (events ++ replicate n Cpu)
covers_still c d project events n h none stands same =
    let quiet = quiet_steps project events n none in
    record {
      controller = stands;
      tables = subst₂ (λ (vs : List Version) (os : List Occurrence). KeepCounts d.tables vs os) (sym quiet.begun) (sym quiet.executed) (subst (λ t. KeepCounts t (begins project events) (executions project events)) (sym same) h.tables);
    }
