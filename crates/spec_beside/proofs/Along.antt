-- Each event keeps what holds of a task's scan, as long as no edit is accepted.
use Rattle.std.proofs.Common.{◌≡◌, ℕ, ◌<◌, ◌⊎◌, inl, inr, true, false, List, [], ◌∷◌, length, Option, Some, None, refl, sym, ◌∙◌, ap, subst, arith, eq-eqb, length-set, get_or-set_same}
use Rattle.std.specs.Prelude.{IfSome, fold, nat_eq}
use Rattle.std.specs.List.{list_all}
use Rattle.std.proofs.lemmas.Bool.{cases_eq, cases_lt, ne_eqb}
use Rattle.std.proofs.lemmas.Option.{same_Some}
use Rattle.lgx_rung.specs.declared.ins.Ins.{Ins}
use Rattle.spec_tables.specs.Tasks.{chosen}
use Rattle.spec_tables.proofs.StateLists.{chosen_up}
use Rattle.spec_scan.specs.Position.{ProgramRungs, first_position}
use Rattle.spec_scan.specs.Scan.{Advanced, advance}
use Rattle.spec_machine.specs.declared.event.Event.{Event}
use Rattle.spec_machine.specs.declared.event.Event.TheVariants as events
use Rattle.spec_machine.specs.Edits.{Book, book_of, book_at, selected}
use Rattle.spec_machine.specs.Machine.{step, run_from, run, trace_from, trace}
use Rattle.spec_machine.specs.ProcessorStep.{with_progress, new_scan, next_program, scan_step, task_step}
use Rattle.spec_machine.specs.Project.{Project}
use Rattle.spec_machine.specs.State.{State, Scan, Progress, no_progress, progress_of, start}
use Rattle.spec_machine.specs.ValidProject.{IsValidProject}
use Rattle.spec_schedule.specs.Stages.{Stage, stages_from, stages}
use Rattle.spec_reach.specs.Programs.{IsAtProgram}
use Rattle.spec_reach.proofs.Changes.{TaskView, view_of, Change, Stays, Rotates, GoesDown, ComesUp, Restarts, Begins, Goes, Ends, changed, IsStepOf, Makes, Known}
use Rattle.spec_reach.proofs.Programs.{tasks_are_at_programs}
use Rattle.spec_reach.proofs.Reached.{IsReached, reached_start, reached_next, happens, known_at, past_view, start_view}
use Rattle.spec_reach.proofs.Sizes.{event_keeps_sizes}
use Rattle.spec_reach.proofs.Views.{IsChosen, chosen_known}
use Rattle.spec_uses.specs.Changes.{first_of, next_of, executed_last, last_of}
use Rattle.spec_beside.proofs.Routines.{frames_begin}
use Rattle.spec_beside.proofs.Found.{found_below}
use Rattle.spec_beside.proofs.Stands.{PositionStands, IsOwnScan}
use Rattle.spec_beside.proofs.WriterSteps.{last_by, step_stands}
use Rattle.spec_beside.proofs.Told.{step_stage, told_own, told_other, own_scan}
use Rattle.spec_beside.proofs.Unedited.{ArePlain, is_unaccepted, book_got, parts, plain_next}

-- ---- the scan of a task that isn't the step's

abbrev IsKept : State → State → ℕ → Type 0
IsKept s x k = ((progress_of x k).scan ≡ (progress_of s k).scan) ⊎ ((progress_of x k).scan ≡ None)

by_change : (s : State) (e : Event) (k : ℕ) (c : Change) → Makes s e k c → (IsStepOf s e k → ⊥) → ((changed c (view_of s k)).scan ≡ (progress_of s k).scan) ⊎ ((changed c (view_of s k)).scan ≡ None)
by_change s e k Stays m apart = inl refl
by_change s e k (Rotates n) m apart = inl refl
by_change s e k GoesDown m apart = inr refl
by_change s e k (ComesUp now rank) m apart = inr refl
by_change s e k (Restarts now rank) m apart = absurd (apart m.0)
by_change s e k (Begins scan) m apart = absurd (apart m.0)
by_change s e k (Goes mark scan) m apart = absurd (apart m.0)
by_change s e k Ends m apart = absurd (apart m.0)

other_kept : (p : Project) (s : State) (e : Event) (k : ℕ) → Known p s → (IsStepOf s e k → ⊥) → IsKept s (step s e).state k
other_kept p s e k known apart =
    let x = (step s e).state in
    let sizes = event_keeps_sizes p s e known.sizes in
    elim (cases_lt k (length p.tasks)) [
      | inl l ↦
          let h = happens p s e k known l in
          let v : (progress_of x k).scan ≡ (changed h.change (view_of s k)).scan = ap (λ (v : TaskView). v.scan) h.view in
          elim (by_change s e k h.change h.makes apart) [ inl same ↦ inl (v ∙ same) | inr none ↦ inr (v ∙ none) ]
      | inr g ↦ inr (ap (λ (v : TaskView). v.scan) (past_view x k (let a = sizes.states in omega arith) (let a = sizes.progresses in omega arith)))
    ]

module _ (p : Project) (valid : IsValidProject p) where
  abbrev pub Stands : Option Scan → Option Ins → Type 0
  Stands o last = IfSome o (IsOwnScan p last)

  -- ---- a begin

  new_stands : (s : State) (n : ℕ) (last : Option Ins) → ArePlain p.programs s → n < length p.programs → IsOwnScan p last (new_scan s n)
  new_stands s n last plain below =
      let t = found_below p.programs n below in
      let e : selected (book_at s.books n) ≡ selected (book_of t.0) = ap selected (ap (λ (b : List Book). book_at b n) plain ∙ book_got p.programs n t.0 t.1) in
      record {
        text = t.0;
        is = t.1;
        rungs = e;
        position = subst (λ (r : ProgramRungs). PositionStands n t.0 last (first_position r)) (sym e) (record { frames = frames_begin p n t.0 valid t.1; copy = tt });
      }

  -- ---- a step of the scan

  abbrev went : State → ℕ → Scan → Advanced
  went s t scan = advance scan.rungs scan.position s.image s.tick scan.first (progress_of s t).flags

  scan_stands : (s : State) (t : ℕ) (scan : Scan) (last : Option Ins) → IsOwnScan p last scan → IsOwnScan p (last_by (went s t scan).effect (first_of scan.position.frames) last) (record scan { position = (went s t scan).position })
  scan_stands s t scan last h =
      record {
        text = h.text;
        is = h.is;
        rungs = h.rungs;
        position = step_stands p scan.program h.text h.is valid last scan.rungs scan.position s.image s.tick scan.first (progress_of s t).flags h.rungs h.position;
      }

  -- ---- the step's own task

  module _ (s : State) (t : ℕ) (last : Option Ins) (reached : IsReached p s) (plain : ArePlain p.programs s) (is : chosen s.table ≡ Some t) where
    abbrev q : Progress
    q = progress_of s t

    chosen_here : IsChosen p s t
    chosen_here = chosen_known p s t (known_at p s reached) is

    there : next_program s t q < length p.programs
    there =
        let at = subst (λ (x : State). IsAtProgram p x t) reached.is (tasks_are_at_programs p reached.journal t valid) in
        let u = chosen_up s.table t is in
        at.known q.ended (at.to_come u.0 u.1)

    abbrev OwnAfter : Option Scan → Type 0
    OwnAfter o = Stands (progress_of (scan_step s t q o).state t).scan (executed_last t last (step_stage s (scan_step s t q o)))

    own_begins : OwnAfter None
    own_begins =
        let n = next_program s t q in
        let set : (progress_of (scan_step s t q None).state t).scan ≡ Some (new_scan s n) = ap (λ (r : Progress). r.scan) (get_or-set_same s.progress t (record q { scan = Some (new_scan s n) }) no_progress chosen_here.in_progress) in
        subst (λ (o : Option Scan). Stands o last) (sym set) (new_stands s n last plain there)

    own_goes : (scan : Scan) → q.scan ≡ Some scan → IsOwnScan p last scan → OwnAfter (Some scan)
    own_goes scan e h =
        let a = went s t scan in
        let q' : Progress = record { ended = q.ended; scan = Some (record scan { position = a.position }); flags = a.flags } in
        let s' = record (with_progress t q' s) { image = a.image } in
        let l = chosen_here.in_progress in
        let within : t < length s'.progress = (let n = length-set s.progress t q' in omega arith) in
        let set = get_or-set_same s.progress t q' no_progress l in
        let next : next_of s t ≡ first_of scan.position.frames = ap (λ (o : Option Scan). elim o [ None ↦ None | Some scan ↦ first_of scan.position.frames ]) e in
        let told = told_own s s' t scan.program q' t last a.effect (eq-eqb t t refl) ∙ ap (λ (i : Option Ins). last_by a.effect i last) next in
        let stands = subst (λ (i : Option Ins). IsOwnScan p i (record scan { position = a.position })) (sym told) (scan_stands s t scan last h) in
        elim (own_scan s' t scan.program q' within set a.effect) [
          | inl none ↦ subst (λ (o : Option Scan). Stands o (executed_last t last (step_stage s (scan_step s t q (Some scan))))) (sym none) tt
          | inr some ↦ subst (λ (o : Option Scan). Stands o (executed_last t last (step_stage s (scan_step s t q (Some scan))))) (sym some) stands
        ]

    own_after : (o : Option Scan) → q.scan ≡ o → Stands o last → OwnAfter o
    own_after None e h = own_begins
    own_after (Some scan) e h = own_goes scan e h

  -- ---- another's step

  told_apart : (s : State) (t k : ℕ) (last : Option Ins) (o : Option Scan) → nat_eq t k ≡ false → executed_last k last (step_stage s (scan_step s t (progress_of s t) o)) ≡ last
  told_apart s t k last None e = refl
  told_apart s t k last (Some scan) e =
      let a = went s t scan in
      let q' : Progress = record { ended = (progress_of s t).ended; scan = Some (record scan { position = a.position }); flags = a.flags } in
      told_other s (record (with_progress t q' s) { image = a.image }) t scan.program q' k last a.effect e

  still_stands : (s x : State) (k : ℕ) (last : Option Ins) → IsKept s x k → Stands (progress_of s k).scan last → Stands (progress_of x k).scan last
  still_stands s x k last (inl same) h = subst (λ (o : Option Scan). Stands o last) (sym same) h
  still_stands s x k last (inr none) h = subst (λ (o : Option Scan). Stands o last) (sym none) tt

  -- ---- an event

  abbrev stage : State → Event → Stage
  stage s e = record { before = s; entry = (step s e).answer; after = (step s e).state }

  module _ (s : State) (k : ℕ) (last : Option Ins) (reached : IsReached p s) (plain : ArePlain p.programs s) (h : Stands (progress_of s k).scan last) where
    known : Known p s
    known = known_at p s reached

    abbrev After : Option ℕ → Type 0
    After o = Stands (progress_of (task_step s o).state k).scan (executed_last k last (step_stage s (task_step s o)))

    -- a task that isn't chosen
    apart : (o : Option ℕ) → chosen s.table ≡ o → (chosen s.table ≡ Some k → ⊥) → executed_last k last (step_stage s (task_step s o)) ≡ last → After o
    apart o is ne told =
        let kept = subst (λ (c : Option ℕ). IsKept s (task_step s c).state k) is (other_kept p s events.Cpu k known (λ x. ne x.chosen)) in
        subst (Stands (progress_of (task_step s o).state k).scan) (sym told) (still_stands s (task_step s o).state k last kept h)

    by_chosen : (o : Option ℕ) → chosen s.table ≡ o → After o
    by_chosen None is = apart None is (λ e. cc) refl
    by_chosen (Some t) is =
        elim (cases_eq k t) [
          | inl e ↦ subst (λ (t : ℕ). After (Some t)) e (own_after s k last reached plain (is ∙ ap (λ (t : ℕ). Some t) (sym e)) (progress_of s k).scan refl h)
          | inr ne ↦ apart (Some t) is (λ e. ne (same_Some k t (sym e ∙ is))) (told_apart s t k last (progress_of s t).scan (ne_eqb t k (λ e. ne (sym e))))
        ]

    event_stands : (e : Event) → Stands (progress_of (step s e).state k).scan (executed_last k last (stage s e))
    event_stands events.Cpu = by_chosen (chosen s.table) refl
    event_stands events.Tick = still_stands s (step s events.Tick).state k last (other_kept p s events.Tick k known (λ x. (let f : events.Tick ≡ events.Cpu → ⊥ = λ e. cc in f x.step))) h
    event_stands (events.Act lane a) = still_stands s (step s (events.Act lane a)).state k last (other_kept p s (events.Act lane a) k known (λ x. (let f : events.Act lane a ≡ events.Cpu → ⊥ = λ e. cc in f x.step))) h

  -- ---- a run

  along : (s : State) (es : List Event) (k : ℕ) (last : Option Ins) → IsReached p s → ArePlain p.programs s → list_all is_unaccepted (trace_from s es) ≡ true → Stands (progress_of s k).scan last → Stands (progress_of (run_from s es) k).scan (fold (executed_last k) last (stages_from s es))
  along s [] k last r plain none h = h
  along s (e ∷ es) k last r plain none h =
      along (step s e).state es k (executed_last k last (stage s e)) (reached_next p s e r) (plain_next p.programs s e es plain none) (parts p.programs s e es none).1 (event_stands s k last r plain h e)

  pub scans_stand : (journal : List Event) (k : ℕ) → list_all is_unaccepted (trace p journal) ≡ true → Stands (progress_of (run p journal) k).scan (last_of k (stages p journal))
  scans_stand journal k none =
      along (start p) journal k None (reached_start p) refl none (subst (λ (o : Option Scan). Stands o None) (sym (ap (λ (v : TaskView). v.scan) (start_view p k))) tt)
