-- The laws of the tasks from what keeps them orderly.
use Rattle.std.proofs.Common.{◌≡◌, ℕ, true, false, Option, Some, None, refl, sym, ◌∙◌, subst}
use Rattle.std.specs.Prelude.{IsTrue, is_some}
use Rattle.std.proofs.lemmas.Option.{same_Some}
use Rattle.spec_base.proofs.Lists.{value_of_some}
use Rattle.spec_scan.specs.declared.bound.Effect.{Effect}
use Rattle.spec_scan.specs.declared.bound.Effect.TheVariants.{Ran, Up, Down, Trigger, CopyStart, Copied, Left, Minor, Major}
use Rattle.spec_scan.specs.Scan.{advance}
use Rattle.spec_tables.specs.Tasks.{TaskState, Table, state_of, is_up, is_open, chosen}
use Rattle.spec_machine.specs.State.{State, Scan, Progress, progress_of}
use Rattle.spec_machine.specs.ProcessorStep.{after_effect, scan_step, task_step, with_progress, task_of}
use Rattle.spec_machine.specs.Machine.{run}
use Rattle.spec_machine.specs.TaskLaws.{OneOpen, UpInRun, InhibitedStayDown, RanksDiffer, RanksBelowNext, StepOfUpTask}
use Rattle.spec_tables.proofs.StateLists.{chosen_up}
use Rattle.spec_machine.proofs.OrderlyRuns.{run_orderly}

-- a state in which something is open is a task's that is up
open_state : (o : Option TaskState) → IsTrue (is_open o) → (u : TaskState) × (o ≡ Some u) × (is_open (Some u) ≡ true)
open_state None h = absurd (let f : false ≡ true → ⊥ = λ p. cc in f h)
open_state (Some u) h = (u, refl, h)

pub one_open : OneOpen
one_open project journal t q h k =
    let s = (run project journal).table in
    let p = open_state (state_of s t) h in
    let r = open_state (state_of s q) k in
    (run_orderly project journal).alone t q p.0 r.0 p.1 r.1 p.2 r.2

pub up_in_run : UpInRun
up_in_run project journal t h = let p = value_of_some (state_of (run project journal).table t) h in (run_orderly project journal).in_run t p.0 p.1

pub inhibited_stay_down : InhibitedStayDown
inhibited_stay_down project journal t h = go (state_of s t) refl
  where
    s : Table
    s = (run project journal).table

    go : (o : Option TaskState) → state_of s t ≡ o → is_some o ≡ false
    go None g = refl
    go (Some u) g = absurd (let f : true ≡ false → ⊥ = λ p. cc in f (sym h ∙ (run_orderly project journal).allowed t u g))

pub ranks_differ : RanksDiffer
ranks_differ project journal t q u v g k e = (run_orderly project journal).differ t q u v g k e

pub ranks_below_next : RanksBelowNext
ranks_below_next project journal t u g = (run_orderly project journal).below t u g

-- ---- a step is of the chosen task

by_effect : (s : State) (t : ℕ) (p : Progress) (n : ℕ) (effect : Effect) → task_of (after_effect s t p n effect).answer.what ≡ Some t
by_effect s t p n Ran = refl
by_effect s t p n Up = refl
by_effect s t p n Down = refl
by_effect s t p n (Trigger other) = refl
by_effect s t p n (CopyStart sync) = refl
by_effect s t p n (Copied true sync) = refl
by_effect s t p n (Copied false sync) = refl
by_effect s t p n (Left true) = refl
by_effect s t p n (Left false) = refl
by_effect s t p n Minor = refl
by_effect s t p n (Major code) = refl

by_scan : (s : State) (t : ℕ) (p : Progress) (o : Option Scan) → task_of (scan_step s t p o).answer.what ≡ Some t
by_scan s t p None = refl
by_scan s t p (Some scan) =
    let a = advance scan.rungs scan.position s.image s.tick scan.first p.flags in
    let p' : Progress = record { ended = p.ended; scan = Some (record scan { position = a.position }); flags = a.flags } in
    by_effect (record (with_progress t p' s) { image = a.image }) t p' scan.program a.effect

by_task : (s : State) (o : Option ℕ) (t : ℕ) → chosen s.table ≡ o → task_of (task_step s o).answer.what ≡ Some t → IsTrue (is_up s.table t)
by_task s None t c h = absurd (let f : None ≡ Some t → ⊥ = λ p. cc in f h)
by_task s (Some q) t c h =
    let e = same_Some q t (sym (by_scan s q (progress_of s q) (progress_of s q).scan) ∙ h) in
    let u = chosen_up s.table q c in
    subst (λ n. IsTrue (is_up s.table n)) e (subst (λ o. IsTrue (is_some o)) (sym u.1) refl)

pub step_of_up_task : StepOfUpTask
step_of_up_task s t h = by_task s (chosen s.table) t refl h
