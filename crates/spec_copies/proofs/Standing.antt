-- Scans stand in their rungs.
use Rattle.std.proofs.Common.{◌≡◌, ℕ, ◌≤◌, inl, inr, Bool, true, false, List, [], ◌∷◌, length, Option, Some, None, refl, sym, ap, subst, arith}
use Rattle.std.specs.Prelude.{IfSome, nat_lt}
use Rattle.std.proofs.lemmas.Bool.{ltb-true, cases_lt, leb-true}
use Rattle.spec_base.specs.declared.limits.TheConstants.{MAX_IMAGE_BYTES}
use Rattle.lgx_num.specs.declared.place.Flags.{Flags}
use Rattle.lgx_rung.specs.Tree.{Tree, end, one, fork}
use Rattle.lgx_rung.specs.declared.ins.Ins.{Ins}
use Rattle.spec_language.specs.Declarations.{bytes}
use Rattle.spec_scan.specs.declared.bound.Copying.{Copying}
use Rattle.spec_scan.specs.Copies.{after_element}
use Rattle.spec_scan.specs.Executable.{IsExecutable, IsExecutableProgram}
use Rattle.spec_scan.specs.Instructions.{Control, Nothing, Call, Return, Jump, ToggleZone, Up, Down, TriggerTask, StartCopy, MinorFault, MajorFault, row}
use Rattle.spec_scan.specs.Next.{FirstHas, NextHas}
use Rattle.spec_scan.specs.Position.{ProgramRungs, Frame, Position, first_position}
use Rattle.spec_scan.specs.Scan.{after_row, in_frame, in_frames, in_progress, advance}
use Rattle.spec_scan.proofs.KeptReturns.{steps_keep_returns}
use Rattle.spec_machine.specs.declared.event.Event.{Event}
use Rattle.spec_machine.specs.Machine.{step, run_from, run}
use Rattle.spec_machine.specs.Project.{Project}
use Rattle.spec_machine.specs.State.{State, Scan, progress_of, start}
use Rattle.spec_machine.specs.ValidProject.{IsValidProject}
use Rattle.spec_reach.specs.Texts.{IsProgram}
use Rattle.spec_reach.proofs.Changes.{TaskView, view_of, Change, Stays, Rotates, GoesDown, ComesUp, Restarts, Begins, Goes, Ends, changed, Makes}
use Rattle.spec_reach.proofs.Cursors.{first_has, step_has, next_instruction_has}
use Rattle.spec_reach.proofs.Images.{images_keep_length}
use Rattle.spec_reach.proofs.Reached.{IsReached, reached_start, reached_next, happens, known_at, past_view, start_view}
use Rattle.spec_reach.proofs.Sizes.{event_keeps_sizes}
use Rattle.spec_reach.proofs.Texts.{scan_runs}
use Rattle.spec_copies.specs.Standing.{IsCopyIn, CopiesIn, StandsIn, ScansStandIn}
use Rattle.spec_copies.proofs.StartedCopies.{element_less, StartsIn, instruction_starts}

-- ---- a step

module _ (program : ProgramRungs) (position : Position) (image : List ℕ) (now : ℕ) (first : Bool) (flags : Flags) (few : length image ≤ MAX_IMAGE_BYTES) where
  abbrev len : ℕ
  len = length image

  by_control : (on : Bool) (im : List ℕ) (fl : Flags) (d : Control) (f : Frame) (outer : List Frame) → StartsIn len d → CopiesIn len (after_row program position image now first flags (record { on = on; image = im; flags = fl; control = d }) f outer).position.copy
  by_control on im fl Nothing f outer h = tt
  by_control on im fl (Call n inputs returns) f outer h = tt
  by_control on im fl Return f outer h = tt
  by_control on im fl (Jump label) f outer h = tt
  by_control on im fl ToggleZone f outer h = tt
  by_control on im fl Up f outer h = tt
  by_control on im fl Down f outer h = tt
  by_control on im fl (TriggerTask t) f outer h = tt
  by_control on im fl (StartCopy c) f outer h = h
  by_control on im fl MinorFault f outer h = tt
  by_control on im fl (MajorFault code) f outer h = tt

  by_frame : (f : Frame) (outer : List Frame) (rest : Tree Ins) → FirstHas (IsExecutable len) rest → CopiesIn len (in_frame program position image now first flags f outer rest).position.copy
  by_frame f outer (one i rest) can =
      let r = row i.op i.args f.cursor.on now first position.frames flags image in
      by_control r.on r.image r.flags r.control (record f { cursor = record f.cursor { rest = rest; on = r.on } }) outer (instruction_starts i f.cursor.on now first position.frames flags image few can)
  by_frame f outer end can = tt
  by_frame f outer (fork t legs rest) can = tt

  by_frames : (fs : List Frame) → NextHas (IsExecutable len) fs → CopiesIn len (in_frames program position image now first flags fs).position.copy
  by_frames [] can = tt
  by_frames (f ∷ outer) can = by_frame f outer f.cursor.rest can

  abbrev rest_copy : Copying → Bool → Option Copying
  rest_copy c true = Some (after_element c)
  rest_copy c false = None

  rest_of : (c : Copying) (b : Bool) → nat_lt 1 c.left ≡ b → IsCopyIn len c → CopiesIn len (rest_copy c b)
  rest_of c true e h = element_less len c h (ltb-true 1 c.left e)
  rest_of c false e h = tt

  by_copy : (o : Option Copying) → NextHas (IsExecutable len) position.frames → CopiesIn len o → CopiesIn len (in_progress program position image now first flags o).position.copy
  by_copy None can h = by_frames position.frames can
  by_copy (Some c) can h = rest_of c (nat_lt 1 c.left) refl h

  step_copies : NextHas (IsExecutable len) position.frames → CopiesIn len position.copy → CopiesIn len (advance program position image now first flags).position.copy
  step_copies can h = by_copy position.copy can h

  pub step_stands : IsExecutableProgram len program → StandsIn len position → StandsIn len (advance program position image now first flags).position
  step_stands runs h =
      let can = next_instruction_has (IsExecutable len) position.frames h.instructions in
      record {
        instructions = step_has (IsExecutable len) program position image now first flags runs h.instructions;
        returns = steps_keep_returns program position image now first flags len can h.returns;
        copy = step_copies can h.copy;
      }

-- ---- along a run

module _ (p : Project) (valid : IsValidProject p) where
  abbrev size : ℕ
  size = length p.image

  pub few_bytes : size ≤ MAX_IMAGE_BYTES
  few_bytes = (let e = valid.tags.image in let l = leb-true (bytes p.tags) MAX_IMAGE_BYTES valid.limits.image in omega arith)

  abbrev Stands : Option Scan → Type 0
  Stands o = IfSome o (λ scan. StandsIn size scan.position)

  pub image_at : (s : State) → IsReached p s → length s.image ≡ size
  image_at s r = subst (λ (x : State). length x.image ≡ size) r.is (images_keep_length p r.journal)

  runs_at : (s : State) (t : ℕ) → IsReached p s → IfSome (progress_of s t).scan (λ scan. IsProgram size (length p.tasks) scan.rungs)
  runs_at s t r = subst (λ (x : State). IfSome (progress_of x t).scan (λ scan. IsProgram size (length p.tasks) scan.rungs)) r.is (scan_runs p valid r.journal t)

  -- a step of the scan in progress
  goes_stands : (s : State) (t : ℕ) (scan : Scan) → IsReached p s → (progress_of s t).scan ≡ Some scan → StandsIn size scan.position → StandsIn size (advance scan.rungs scan.position s.image s.tick scan.first (progress_of s t).flags).position
  goes_stands s t scan r was h =
      let e = image_at s r in
      let runs = subst (λ (o : Option Scan). IfSome o (λ x. IsProgram size (length p.tasks) x.rungs)) was (runs_at s t r) in
      subst (λ (i : ℕ). StandsIn i (advance scan.rungs scan.position s.image s.tick scan.first (progress_of s t).flags).position) e
      (step_stands scan.rungs scan.position s.image s.tick scan.first (progress_of s t).flags (let l = few_bytes in omega arith)
      (subst (λ (i : ℕ). IsExecutableProgram i scan.rungs) (sym e) runs.executable) (subst (λ (i : ℕ). StandsIn i scan.position) (sym e) h))

  first_stands : (rungs : ProgramRungs) → IsExecutableProgram size rungs → StandsIn size (first_position rungs)
  first_stands rungs h = record { instructions = first_has (IsExecutable size) rungs h; returns = (tt, tt); copy = tt }

  by_change : (s : State) (e : Event) (t : ℕ) (c : Change) → IsReached p s → Makes s e t c → IfSome (changed c (view_of s t)).scan (λ scan. IsProgram size (length p.tasks) scan.rungs) → Stands (progress_of s t).scan → Stands (changed c (view_of s t)).scan
  by_change s e t Stays r m runs h = h
  by_change s e t (Rotates n) r m runs h = h
  by_change s e t GoesDown r m runs h = tt
  by_change s e t (ComesUp now rank) r m runs h = tt
  by_change s e t (Restarts now rank) r m runs h = tt
  by_change s e t (Begins scan) r m runs h =
      let here = subst (λ (x : Scan). IsProgram size (length p.tasks) x.rungs) m.2 runs in
      subst (λ (x : Scan). StandsIn size x.position) (sym m.2) (first_stands _ here.executable)
  by_change s e t (Goes mark scan) r m runs h =
      let b = m.1.before in
      subst (λ (x : Scan). StandsIn size x.position) (sym m.1.goes) (goes_stands s t b r m.1.was (subst Stands m.1.was h))
  by_change s e t Ends r m runs h = tt

  stands_next : (s : State) (e : Event) (t : ℕ) → IsReached p s → Stands (progress_of s t).scan → Stands (progress_of (step s e).state t).scan
  stands_next s e t r h =
      let known = known_at p s r in
      let x = (step s e).state in
      let sizes = event_keeps_sizes p s e known.sizes in
      elim (cases_lt t (length p.tasks)) [
        | inl l ↦
            (let y = happens p s e t known l in
            let same = ap (λ (v : TaskView). v.scan) y.view in
            subst Stands (sym same) (by_change s e t y.change r y.makes (subst (λ (o : Option Scan). IfSome o (λ z. IsProgram size (length p.tasks) z.rungs)) same (runs_at x t (reached_next p s e r))) h))
        | inr g ↦ subst Stands (sym (ap (λ (v : TaskView). v.scan) (past_view x t (let a = sizes.states in omega arith) (let a = sizes.progresses in omega arith)))) tt
      ]

  stands_from : (s : State) (es : List Event) (t : ℕ) → IsReached p s → Stands (progress_of s t).scan → Stands (progress_of (run_from s es) t).scan
  stands_from s [] t r h = h
  stands_from s (e ∷ es) t r h = stands_from (step s e).state es t (reached_next p s e r) (stands_next s e t r h)

  pub run_stands : (journal : List Event) (t : ℕ) → Stands (progress_of (run p journal) t).scan
  run_stands journal t = stands_from (start p) journal t (reached_start p) (subst Stands (sym (ap (λ (v : TaskView). v.scan) (start_view p t))) tt)

  pub stands_at : (s : State) (t : ℕ) (scan : Scan) → IsReached p s → (progress_of s t).scan ≡ Some scan → StandsIn size scan.position
  stands_at s t scan r is = subst Stands is (subst (λ (x : State). Stands (progress_of x t).scan) r.is (run_stands r.journal t))

pub scans_stand_in : ScansStandIn
scans_stand_in p journal t scan valid is = stands_at p valid (run p journal) t scan (record { journal = journal; is = refl }) is
