-- The law of marks.
use Rattle.std.proofs.Common.{◌≡◌, ℕ, Bool, true, false, if◌then◌else◌, List, [], ◌∷◌, length, Option, Some, None, refl, sym, ◌∙◌, ap}
use Rattle.std.specs.Prelude.{nat_le}
use Rattle.lgx_num.specs.declared.place.Flags.{Flags}
use Rattle.lgx_rung.specs.Tree.{Tree, end, one, fork}
use Rattle.lgx_rung.specs.declared.ins.Ins.{Ins}
use Rattle.spec_tables.specs.Tasks.{chosen}
use Rattle.spec_scan.specs.declared.bound.Copying.{Copying}
use Rattle.spec_scan.specs.declared.bound.Effect.{Effect}
use Rattle.spec_scan.specs.declared.bound.Effect.TheVariants as effect
use Rattle.spec_scan.specs.Executable.{IsExecutable}
use Rattle.spec_scan.specs.Instructions.{Control, Nothing, Call, Return, Jump, ToggleZone, Up, Down, TriggerTask, StartCopy, MinorFault, MajorFault, row}
use Rattle.spec_scan.specs.Next.{FirstHas, NextHas}
use Rattle.spec_scan.specs.Position.{Frame, Position}
use Rattle.spec_scan.specs.Scan.{Advanced, after_row, in_frame, in_frames, in_progress, advance}
use Rattle.spec_machine.specs.declared.answer.Mark.{Mark}
use Rattle.spec_machine.specs.declared.answer.Mark.TheVariants as mark
use Rattle.spec_machine.specs.declared.answer.What.{What}
use Rattle.spec_machine.specs.declared.answer.What.TheVariants as what
use Rattle.spec_machine.specs.declared.event.Event.{Event}
use Rattle.spec_machine.specs.declared.event.Event.TheVariants as events
use Rattle.spec_machine.specs.Machine.{OfStep}
use Rattle.spec_machine.specs.ProcessorStep.{with_progress, after_effect, scan_step, task_step}
use Rattle.spec_machine.specs.Project.{Project}
use Rattle.spec_machine.specs.State.{State, Scan, Progress, progress_of}
use Rattle.spec_machine.specs.ValidProject.{IsValidProject}
use Rattle.spec_reach.proofs.Cursors.{next_instruction_has}
use Rattle.spec_reach.proofs.Reached.{IsReached}
use Rattle.spec_copies.proofs.Standing.{stands_at}
use Rattle.spec_uses.specs.Changes.{first_of, next_of}
use Rattle.spec_laws.specs.Marks.{condition_in, condition_at, shown_if, ShowsMark, element_shown, IsMarked, KeepsMarks, StepsAreMarked}
use Rattle.spec_laws.proofs.AlongStages.{stage, each_stage}
use Rattle.spec_laws.proofs.MarkedRows.{mark_for, row_shown}

-- ---- where a scan stands

abbrev pub next_in : Option Scan → Option Ins
next_in o = elim o [ None ↦ None | Some x ↦ first_of x.position.frames ]

abbrev pub on_in : Option Scan → Bool
on_in o = elim o [ None ↦ false | Some x ↦ condition_in x.position.frames ]

abbrev copied_in : Option Scan → Option Copying
copied_in o = elim o [ None ↦ None | Some x ↦ x.position.copy ]

abbrev pub first_in : Tree Ins → Option Ins
first_in rest = elim rest [ one i more ↦ Some i | _ ↦ None ]

-- ---- what an effect is answered with

abbrev mark_by : Effect → Mark
mark_by effect.Up = mark.Up
mark_by effect.Down = mark.Down
mark_by (effect.Trigger t) = mark.Trigger t
mark_by (effect.CopyStart sync) = mark.CopyStart sync
mark_by (effect.Copied true sync) = mark.CopyEnd sync
mark_by _ = mark.Plain

abbrev what_by : ℕ → ℕ → Effect → What
what_by t n (effect.Copied done sync) = what.Copied t n
what_by t n (effect.Left ended) = what.Left t n ended
what_by t n _ = what.Ran t n

module _ (s : State) (t n : ℕ) where
  -- what is to be said of a step with this effect
  abbrev Shows : Effect → Type 0
  Shows e = IsMarked s (what_by t n e) (mark_by e)

  answered : (y : State) (q : Progress) (e : Effect) → Shows e → KeepsMarks (record { before = s; entry = OfStep (after_effect y t q n e).answer; after = (after_effect y t q n e).state })
  answered y q effect.Ran h = h
  answered y q effect.Up h = h
  answered y q effect.Down h = h
  answered y q (effect.Trigger other) h = h
  answered y q (effect.CopyStart sync) h = h
  answered y q (effect.Copied true sync) h = h
  answered y q (effect.Copied false sync) h = h
  answered y q (effect.Left true) h = h
  answered y q (effect.Left false) h = h
  answered y q effect.Minor h = h
  answered y q (effect.Major code) h = h

  -- ---- a step of the scan

  module _ (scan : Scan) (was : (progress_of s t).scan ≡ Some scan) (now : ℕ) (first : Bool) (flags : Flags) where
    abbrev position : Position
    position = scan.position

    abbrev goes : Advanced → Type 0
    goes a = Shows a.effect

    by_control : (on : Bool) (im : List ℕ) (fl : Flags) (d : Control) (f : Frame) (outer : List Frame) → ShowsMark s t (mark_for d) → goes (after_row scan.rungs position s.image now first flags (record { on = on; image = im; flags = fl; control = d }) f outer)
    by_control on im fl Nothing f outer h = h
    by_control on im fl (Call n inputs returns) f outer h = h
    by_control on im fl Return f outer h = h
    by_control on im fl (Jump label) f outer h = h
    by_control on im fl ToggleZone f outer h = h
    by_control on im fl Up f outer h = h
    by_control on im fl Down f outer h = h
    by_control on im fl (TriggerTask k) f outer h = h
    by_control on im fl (StartCopy c) f outer h = h
    by_control on im fl MinorFault f outer h = h
    by_control on im fl (MajorFault code) f outer h = h

    -- the scan stands before the instruction
    stands_before : (f : Frame) (outer : List Frame) (i : Ins) (rest : Tree Ins) → position.frames ≡ f ∷ outer → f.cursor.rest ≡ one i rest → next_of s t ≡ Some i
    stands_before f outer i rest fs is =
        ap next_in was ∙ (ap first_of fs ∙ ap first_in is)

    condition_before : (f : Frame) (outer : List Frame) → position.frames ≡ f ∷ outer → condition_at s t ≡ f.cursor.on
    condition_before f outer fs =
        ap on_in was ∙ ap condition_in fs

    by_frame : (len : ℕ) (f : Frame) (outer : List Frame) (rest : Tree Ins) → position.frames ≡ f ∷ outer → f.cursor.rest ≡ rest → FirstHas (IsExecutable len) rest → goes (in_frame scan.rungs position s.image now first flags f outer rest)
    by_frame len f outer (one i rest) fs is can =
        let r = row i.op i.args f.cursor.on now first position.frames flags s.image in
        by_control r.on r.image r.flags r.control (record f { cursor = record f.cursor { rest = rest; on = r.on } }) outer (record {
          ins = i;
          next = stands_before f outer i rest fs is;
          shows = row_shown i.args now first position.frames flags s.image i.op f.cursor.on can.fit ∙ ap (λ (b : Bool). shown_if b i.op i.args s.image) (sym (condition_before f outer fs));
        })
    by_frame len f outer end fs is can = by_end outer
      where
        by_end : (outer : List Frame) → goes (in_frame scan.rungs position s.image now first flags f outer end)
        by_end [] = refl
        by_end (g ∷ gs) = refl
    by_frame len f outer (fork x legs rest) fs is can = by_fork outer
      where
        by_fork : (outer : List Frame) → goes (in_frame scan.rungs position s.image now first flags f outer (fork x legs rest))
        by_fork [] = refl
        by_fork (g ∷ gs) = refl

    by_frames : (len : ℕ) (fs : List Frame) → position.frames ≡ fs → NextHas (IsExecutable len) fs → goes (in_frames scan.rungs position s.image now first flags fs)
    by_frames len [] e can = refl
    by_frames len (f ∷ outer) e can = by_frame len f outer f.cursor.rest e refl can

    copy_here : (c : Copying) → position.copy ≡ Some c → element_shown (copied_in (progress_of s t).scan) ≡ element_shown (Some c)
    copy_here c e = ap (λ (o : Option Scan). element_shown (copied_in o)) was ∙ ap element_shown e

    by_element : (c : Copying) (done : Bool) → mark_by (effect.Copied done c.sync) ≡ (if done then mark.CopyEnd c.sync else mark.Plain)
    by_element c true = refl
    by_element c false = refl

    by_copy : (len : ℕ) (o : Option Copying) → position.copy ≡ o → NextHas (IsExecutable len) position.frames → goes (in_progress scan.rungs position s.image now first flags o)
    by_copy len None e can = by_frames len position.frames refl can
    by_copy len (Some c) e can = by_element c (nat_le c.left 1) ∙ sym (copy_here c e)

    step_shows : (len : ℕ) → NextHas (IsExecutable len) position.frames → goes (advance scan.rungs position s.image now first flags)
    step_shows len can = by_copy len position.copy refl can

-- ---- along a run

module _ (p : Project) (valid : IsValidProject p) (s : State) (r : IsReached p s) where
  by_scan : (t : ℕ) (o : Option Scan) → (progress_of s t).scan ≡ o → KeepsMarks (record { before = s; entry = OfStep (scan_step s t (progress_of s t) o).answer; after = (scan_step s t (progress_of s t) o).state })
  by_scan t None e = refl
  by_scan t (Some scan) e =
      let q = progress_of s t in
      let a = advance scan.rungs scan.position s.image s.tick scan.first q.flags in
      let q' : Progress = record { ended = q.ended; scan = Some (record scan { position = a.position }); flags = a.flags } in
      let can = next_instruction_has (IsExecutable (length p.image)) scan.position.frames (stands_at p valid s t scan r e).instructions in
      answered s t scan.program (record (with_progress t q' s) { image = a.image }) q' a.effect (step_shows s t scan.program scan e s.tick scan.first q.flags (length p.image) can)

  by_task : (o : Option ℕ) → KeepsMarks (record { before = s; entry = OfStep (task_step s o).answer; after = (task_step s o).state })
  by_task None = refl
  by_task (Some t) = by_scan t (progress_of s t).scan refl

pub steps_are_marked : (p : Project) → IsValidProject p → StepsAreMarked p
steps_are_marked p valid journal = each_stage p KeepsMarks here journal
  where
    here : (s : State) (e : Event) → IsReached p s → KeepsMarks (stage s e)
    here s events.Cpu r = by_task p valid s r (chosen s.table)
    here s events.Tick r = tt
    here s (events.Act lane a) r = tt
