-- What a scan's next step triggers is a task of the project.
use Rattle.std.proofs.Common.{◌≡◌, ℕ, inl, inr, List, [], ◌∷◌, length, Option, Some, sym, ap, subst, arith}
use Rattle.std.specs.Prelude.{IfSome}
use Rattle.std.specs.List.{AllByRecursion as Each}
use Rattle.std.proofs.lemmas.Bool.{cases_lt}
use Rattle.lgx_rung.specs.declared.ins.Ins.{Ins}
use Rattle.lgx_rung.specs.Tree.{Tree, end, one, fork, instructions}
use Rattle.spec_scan.specs.Executable.{IsExecutable, AreExecutable}
use Rattle.spec_scan.specs.KnownTasks.{NamesKnownTasks, KnowsTasks, TriggersKnownTask}
use Rattle.spec_scan.specs.Next.{FirstHas, NextHas}
use Rattle.spec_scan.specs.Position.{ProgramRungs, Frame}
use Rattle.spec_scan.specs.Scan.{advance}
use Rattle.spec_scan.proofs.TriggeredTasks.{steps_trigger_known_tasks}
use Rattle.spec_machine.specs.declared.event.Event.{Event}
use Rattle.spec_machine.specs.Machine.{step, run_from, run}
use Rattle.spec_machine.specs.Project.{Project}
use Rattle.spec_machine.specs.State.{State, Scan, progress_of, start}
use Rattle.spec_machine.specs.ValidProject.{IsValidProject}
use Rattle.spec_reach.specs.Positions.{TreeHas, RungsHave, PositionHas, ProgramHas}
use Rattle.spec_reach.specs.Texts.{IsProgram}
use Rattle.spec_reach.proofs.Changes.{TaskView, view_of, Change, Stays, Rotates, GoesDown, ComesUp, Restarts, Begins, Goes, Ends, changed, Makes}
use Rattle.spec_reach.proofs.Cursors.{first_has, step_has, next_instruction_has}
use Rattle.spec_reach.proofs.Reached.{IsReached, reached_start, reached_next, happens, known_at, past_view, start_view}
use Rattle.spec_reach.proofs.Sizes.{event_keeps_sizes}
use Rattle.spec_reach.proofs.Texts.{scan_runs}

-- ---- two properties at once

each_both : {A : Type 0} (P Q R : A → Type 0) → ((x : A) → P x → Q x → R x) → (xs : List A) → Each P xs → Each Q xs → Each R xs
each_both P Q R both [] h k = tt
each_both P Q R both (x ∷ xs) h k = (both x h.0 k.0, each_both P Q R both xs h.1 k.1)

module _ (p : Project) (valid : IsValidProject p) where
  abbrev size : ℕ
  size = length p.image

  abbrev many : ℕ
  many = length p.tasks

  -- it can be executed, and names tasks that there are
  abbrev IsGood : Ins → Type 0
  IsGood i = IsExecutable size i × NamesKnownTasks many i

  program_good : (program : ProgramRungs) → IsProgram size many program → ProgramHas IsGood program
  program_good program h =
      each_both (AreExecutable size) (KnowsTasks many) (RungsHave IsGood)
      (λ rungs a b. each_both (λ r. Each (IsExecutable size) (instructions r)) (λ r. Each (NamesKnownTasks many) (instructions r)) (TreeHas IsGood) (λ r c d. each_both (IsExecutable size) (NamesKnownTasks many) IsGood (λ i e f. (e, f)) (instructions r) c d) rungs a b)
      program.routines h.executable h.tasks

  first_parts : (t : Tree Ins) → FirstHas IsGood t → FirstHas (IsExecutable size) t × FirstHas (NamesKnownTasks many) t
  first_parts (one i rest) h = h
  first_parts end h = (tt, tt)
  first_parts (fork t legs rest) h = (tt, tt)

  next_parts : (frames : List Frame) → NextHas IsGood frames → NextHas (IsExecutable size) frames × NextHas (NamesKnownTasks many) frames
  next_parts [] h = (tt, tt)
  next_parts (f ∷ outer) h = first_parts f.cursor.rest h

  -- ---- along a run

  abbrev Stands : Option Scan → Type 0
  Stands o = IfSome o (λ scan. PositionHas IsGood scan.position)

  abbrev Runs : Option Scan → Type 0
  Runs o = IfSome o (λ scan. IsProgram size many scan.rungs)

  runs_at : (s : State) (t : ℕ) → IsReached p s → Runs (progress_of s t).scan
  runs_at s t r = subst (λ (x : State). Runs (progress_of x t).scan) r.is (scan_runs p valid r.journal t)

  by_change : (s : State) (e : Event) (t : ℕ) (c : Change) → IsReached p s → Makes s e t c → Runs (changed c (view_of s t)).scan → Stands (progress_of s t).scan → Stands (changed c (view_of s t)).scan
  by_change s e t Stays r m runs h = h
  by_change s e t (Rotates n) r m runs h = h
  by_change s e t GoesDown r m runs h = tt
  by_change s e t (ComesUp now rank) r m runs h = tt
  by_change s e t (Restarts now rank) r m runs h = tt
  by_change s e t (Begins scan) r m runs h =
      let here = subst (λ (x : Scan). IsProgram size many x.rungs) m.2 runs in
      subst (λ (x : Scan). PositionHas IsGood x.position) (sym m.2) (first_has IsGood _ (program_good _ here))
  by_change s e t (Goes mark scan) r m runs h =
      let b = m.1.before in
      let here = subst Runs m.1.was (runs_at s t r) in
      subst (λ (x : Scan). PositionHas IsGood x.position) (sym m.1.goes)
      (step_has IsGood b.rungs b.position s.image s.tick b.first (progress_of s t).flags (program_good b.rungs here) (subst Stands m.1.was h))
  by_change s e t Ends r m runs h = tt

  stands_next : (s : State) (e : Event) (t : ℕ) → IsReached p s → Stands (progress_of s t).scan → Stands (progress_of (step s e).state t).scan
  stands_next s e t r h =
      let known = known_at p s r in
      let x = (step s e).state in
      let sizes = event_keeps_sizes p s e known.sizes in
      elim (cases_lt t many) [
        | inl l ↦
            (let y = happens p s e t known l in
            let same = ap (λ (v : TaskView). v.scan) y.view in
            subst Stands (sym same) (by_change s e t y.change r y.makes (subst Runs same (runs_at x t (reached_next p s e r))) h))
        | inr g ↦ subst Stands (sym (ap (λ (v : TaskView). v.scan) (past_view x t (let a = sizes.states in omega arith) (let a = sizes.progresses in omega arith)))) tt
      ]

  stands_from : (s : State) (es : List Event) (t : ℕ) → IsReached p s → Stands (progress_of s t).scan → Stands (progress_of (run_from s es) t).scan
  stands_from s [] t r h = h
  stands_from s (e ∷ es) t r h = stands_from (step s e).state es t (reached_next p s e r) (stands_next s e t r h)

  run_stands : (journal : List Event) (t : ℕ) → Stands (progress_of (run p journal) t).scan
  run_stands journal t = stands_from (start p) journal t (reached_start p) (subst Stands (sym (ap (λ (v : TaskView). v.scan) (start_view p t))) tt)

  pub next_triggers : (s : State) (t : ℕ) (scan : Scan) → IsReached p s → (progress_of s t).scan ≡ Some scan → TriggersKnownTask many (advance scan.rungs scan.position s.image s.tick scan.first (progress_of s t).flags).effect
  next_triggers s t scan r is =
      let h = subst Stands is (subst (λ (x : State). Stands (progress_of x t).scan) r.is (run_stands r.journal t)) in
      let next = next_parts scan.position.frames (next_instruction_has IsGood scan.position.frames h) in
      steps_trigger_known_tasks scan.rungs scan.position s.image s.tick scan.first (progress_of s t).flags size many next.0 next.1
