-- Where an event changes a byte of a tag it is a word in on a connection of the tag, a change to Run, or a step of a writer.
use Rattle.std.proofs.Common.{◌≡◌, ◌≢◌, ℕ, ◌⊎◌, inl, inr, Bool, true, false, List, [], ◌∷◌, map, ℤ, Option, Some, None, IsTrue, refl, sym, ◌∙◌, ap, subst}
use Rattle.std.specs.Prelude.{Result, Ok, Err, IfSome, slice_index}
use Rattle.std.specs.Int.{w32}
use Rattle.std.specs.List.{list_all}
use Rattle.lgx_num.specs.Image.{write_signed}
use Rattle.lgx_rung.specs.declared.ins.Ins.{Ins}
use Rattle.spec_tables.specs.declared.conn.ConnFault.{ConnFault}
use Rattle.spec_tables.specs.declared.conn.Slot.{Slot}
use Rattle.spec_tables.specs.declared.force.ForceFault.{ForceFault}
use Rattle.spec_tables.specs.Connections.{slot, io_word}
use Rattle.spec_tables.specs.Forces.{Forces, forced, enable, disable, remove_all}
use Rattle.spec_tables.specs.Tasks.{chosen, held, release_answer}
use Rattle.spec_tables.specs.declared.task.Release.{Release}
use Rattle.spec_tables.specs.declared.task.Release.TheVariants.{Released, Overlap, Inhibited}
use Rattle.spec_scan.specs.Scan.{advance}
use Rattle.spec_machine.specs.declared.answer.Outcome.{Outcome}
use Rattle.spec_machine.specs.declared.reply.EditFault.{EditFault}
use Rattle.spec_machine.specs.declared.reply.Mode.{Mode}
use Rattle.spec_machine.specs.declared.reply.Mode.TheVariants.{Program, Run, Faulted}
use Rattle.spec_machine.specs.declared.event.Action.{Action}
use Rattle.spec_machine.specs.declared.event.Action.TheVariants.{WordIn, WordOut, Accept, Test, Untest, Assemble, Cancel, ForceInstall, ForceEnable, ForceDisable, ForceRemove, ModeRun, ModeProgram, Clear}
use Rattle.spec_machine.specs.declared.event.Event.{Event}
use Rattle.spec_machine.specs.declared.event.Event.TheVariants as events
use Rattle.spec_machine.specs.Actions.{held_or, triggers, put_in, take_out, install_on, force_replied, edit_replied, mode_run_from, mode_program_from, clear_from, act}
use Rattle.spec_machine.specs.Edits.{Edited, book_of, selected, accept, on_accepted, test, untest, assemble, cancel}
use Rattle.spec_machine.specs.Machine.{step, run, trace}
use Rattle.spec_machine.specs.ProcessorStep.{with_progress, scan_step, task_step}
use Rattle.spec_machine.specs.Project.{Project, ProgramText}
use Rattle.spec_machine.specs.Releases.{after_answer}
use Rattle.spec_machine.specs.State.{State, Scan, Plan, Progress, progress_of, start, Answered}
use Rattle.spec_machine.specs.ValidProject.{IsValidProject}
use Rattle.spec_schedule.specs.Stages.{stages}
use Rattle.spec_reach.proofs.Images.{advance_image, tick_image}
use Rattle.spec_reach.proofs.Reached.{run_known, run_more}
use Rattle.spec_uses.specs.Changes.{first_of, next_of, last_of, acting, puts_into, IsRunOf, IsWriter, IsByteOf, ChangesHaveWriters}
use Rattle.spec_beside.proofs.Prescans.{prescan_writes_beside}
use Rattle.spec_beside.proofs.Along.{scans_stand}
use Rattle.spec_beside.proofs.Stands.{IsOwnScan}
use Rattle.spec_beside.proofs.WriterSteps.{doer, of_program, step_writes}
use Rattle.spec_beside.proofs.Told.{acting_by, told_acting}
use Rattle.spec_beside.proofs.Unedited.{ArePlain, is_unaccepted, plain_from, unaccepted_before}
use Rattle.spec_beside.proofs.WriterWords.{word_of, word_is_of}

selected_books : (ps : List ProgramText) → map selected (map book_of ps) ≡ map (λ q. selected (book_of q)) ps
selected_books [] = refl
selected_books (q ∷ qs) = ap (λ xs. selected (book_of q) ∷ xs) (selected_books qs)

module _ (p : Project) (valid : IsValidProject p) (k b : ℕ) (byte : IsByteOf p k b) where
  abbrev Differs : State → State → Type 0
  Differs s x = slice_index x.image b ≢ slice_index s.image b

  -- ---- actions

  module _ (s : State) (lane : ℕ) (plan : s.plan.conns ≡ p.conns) (plain : ArePlain p.programs s) where
    abbrev Causes : Action → Type 0
    Causes a = IsTrue (puts_into p k (events.Act lane a)) ⊎ IsRunOf p k (events.Act lane a)

    -- an action that keeps the image
    same : (a : Action) (x : State) → x.image ≡ s.image → Differs s x → Causes a
    same a x e differs = absurd (differs (ap (λ (xs : List ℕ). slice_index xs b) e))

    or_held : (a : Action) (h : Bool) (x : Answered Outcome) → (Differs s x.state → Causes a) → Differs s (held_or h s x).state → Causes a
    or_held a true x go differs = same a s refl differs
    or_held a false x go differs = go differs

    answered : (t : ℕ) (answer : Release) (x : State) → (after_answer answer t x).state.image ≡ x.image
    answered t Released x = refl
    answered t Overlap x = refl
    answered t Inhibited x = refl

    triggered : (x : State) (m : Mode) (o : Option ℕ) → (triggers x m o).state.image ≡ x.image
    triggered x Run (Some t) = answered t (release_answer x.table t) x
    triggered x Program (Some t) = refl
    triggered x Faulted (Some t) = refl
    triggered x Run None = refl
    triggered x Program None = refl
    triggered x Faulted None = refl

    by_put : (conn : List ℕ) (word : ℕ) (v : ℤ) (r : Result Slot ConnFault) → slot p.conns conn word false ≡ r → Differs s (put_in s v r).state → Causes (WordIn conn word v)
    by_put conn word v (Err f) is differs = same (WordIn conn word v) s refl differs
    by_put conn word v (Ok x) is differs =
        let w = forced s.forces x.io v in
        let e = triggered (record s { image = write_signed w32 s.image x.byte w }) s.mode x.trigger in
        inl (word_is_of p conn k b x s.image w valid byte (word_of p conn word false x is) (subst (λ (xs : List ℕ). slice_index xs b ≢ slice_index s.image b) e differs))

    by_take : (conn : List ℕ) (word : ℕ) (r : Result Slot ConnFault) → Differs s (take_out s r).state → Causes (WordOut conn word)
    by_take conn word (Err f) differs = same (WordOut conn word) s refl differs
    by_take conn word (Ok x) differs = same (WordOut conn word) s refl differs

    by_edit : (a : Action) (r : Result Edited EditFault) → Differs s (edit_replied s r).state → Causes a
    by_edit a (Err f) differs = same a s refl differs
    by_edit a (Ok e) differs = same a (record s { books = e.books }) refl differs

    by_force : (a : Action) (r : Result Forces ForceFault) → Differs s (force_replied s r).state → Causes a
    by_force a (Err f) differs = same a s refl differs
    by_force a (Ok x) differs = same a (record s { forces = x }) refl differs

    by_run : (m : Mode) → Differs s (mode_run_from m s).state → Causes ModeRun
    by_run Program differs = inr (λ none. differs (prescan_writes_beside p s.books s.image k b valid byte none (ap (map selected) plain ∙ selected_books p.programs)))
    by_run Run differs = same ModeRun s refl differs
    by_run Faulted differs = same ModeRun s refl differs

    by_program : (m : Mode) → Differs s (mode_program_from m s).state → Causes ModeProgram
    by_program Run differs = same ModeProgram (mode_program_from Run s).state refl differs
    by_program Program differs = same ModeProgram s refl differs
    by_program Faulted differs = same ModeProgram s refl differs

    by_clear : (m : Mode) → Differs s (clear_from m s).state → Causes Clear
    by_clear Faulted differs = same Clear (clear_from Faulted s).state refl differs
    by_clear Run differs = same Clear s refl differs
    by_clear Program differs = same Clear s refl differs

    by_act : (a : Action) → Differs s (act s lane a).state → Causes a
    by_act (WordIn conn word v) =
        or_held (WordIn conn word v) (held s.table) (put_in s v (slot s.plan.conns conn word false)) (by_put conn word v (slot s.plan.conns conn word false) (ap (λ cs. slot cs conn word false) (sym plan)))
    by_act (WordOut conn word) = or_held (WordOut conn word) (held s.table) (take_out s (slot s.plan.conns conn word true)) (by_take conn word (slot s.plan.conns conn word true))
    by_act (Accept c) = by_edit (Accept c) (accept s.plan.tags s.plan.names s.books lane c)
    by_act (Test n) = by_edit (Test n) (on_accepted test s.books lane n)
    by_act (Untest n) = by_edit (Untest n) (on_accepted untest s.books lane n)
    by_act (Assemble n) = by_edit (Assemble n) (on_accepted assemble s.books lane n)
    by_act (Cancel n) = by_edit (Cancel n) (on_accepted cancel s.books lane n)
    by_act (ForceInstall conn word mask v) = by_force (ForceInstall conn word mask v) (install_on s.forces (io_word s.plan.conns conn word) mask v)
    by_act ForceEnable = by_force ForceEnable (enable s.forces)
    by_act ForceDisable = by_force ForceDisable (Ok (disable s.forces))
    by_act ForceRemove = by_force ForceRemove (remove_all s.forces)
    by_act ModeRun = or_held ModeRun (held s.table) (mode_run_from s.mode s) (by_run s.mode)
    by_act ModeProgram = or_held ModeProgram (held s.table) (mode_program_from s.mode s) (by_program s.mode)
    by_act Clear = or_held Clear (held s.table) (clear_from s.mode s) (by_clear s.mode)

  -- ---- a processor step

  module _ (journal : List Event) (none : list_all is_unaccepted (trace p journal) ≡ true) where
    abbrev s : State
    s = run p journal

    abbrev last : ℕ → Option Ins
    last t = last_of t (stages p journal)

    by_scan : (t : ℕ) (o : Option Scan) → (progress_of s t).scan ≡ o → Differs s (scan_step s t (progress_of s t) o).state → IsWriter p k (acting_by (next_of s) last (scan_step s t (progress_of s t) o).answer.what)
    by_scan t None e differs = absurd (differs refl)
    by_scan t (Some scan) e differs =
        let q = progress_of s t in
        let a = advance scan.rungs scan.position s.image s.tick scan.first q.flags in
        let q' : Progress = record { ended = q.ended; scan = Some (record scan { position = a.position }); flags = a.flags } in
        let h : IsOwnScan p (last t) scan = subst (λ (o : Option Scan). IfSome o (IsOwnScan p (last t))) e (scans_stand p valid journal t none) in
        let next : next_of s t ≡ first_of scan.position.frames = ap (λ (o : Option Scan). elim o [ None ↦ None | Some scan ↦ first_of scan.position.frames ]) e in
        let told = told_acting s (record (with_progress t q' s) { image = a.image }) t scan.program q' (next_of s) last a.effect ∙ ap (λ (i : Option Ins). of_program scan.program (doer a.effect i (last t))) next in
        elim (step_writes p scan.program h.text h.is valid (last t) scan.rungs scan.position s.image s.tick scan.first q.flags k b byte h.position) [
          | inl kept ↦ absurd (differs (ap (λ (xs : List ℕ). slice_index xs b) (advance_image s t q scan a) ∙ kept))
          | inr w ↦ subst (IsWriter p k) (sym told) w
        ]

    by_task : (o : Option ℕ) → Differs s (task_step s o).state → IsWriter p k (acting_by (next_of s) last (task_step s o).answer.what)
    by_task None differs = absurd (differs refl)
    by_task (Some t) differs = by_scan t (progress_of s t).scan refl differs

    -- ---- an event

    by_event : (e : Event) → Differs s (step s e).state → IsTrue (puts_into p k e) ⊎ (IsRunOf p k e ⊎ IsWriter p k (acting p journal e))
    by_event events.Cpu differs = inr (inr (by_task (chosen s.table) differs))
    by_event events.Tick differs = absurd (differs (ap (λ (xs : List ℕ). slice_index xs b) (tick_image s)))
    by_event (events.Act lane a) differs =
        elim (by_act s lane (ap (λ (plan : Plan). plan.conns) (run_known p journal).sizes.same_plan) (plain_from p.programs (start p) journal refl none) a differs) [
          | inl puts ↦ inl puts
          | inr runs ↦ inr (inl runs)
        ]

pub changes_have_writers : ChangesHaveWriters
changes_have_writers p valid journal e k b none byte changed =
    let before = unaccepted_before (start p) journal (e ∷ []) none in
    by_event p valid k b byte journal before e (subst (λ (x : State). slice_index x.image b ≢ slice_index (run p journal).image b) (run_more p journal e) changed)
