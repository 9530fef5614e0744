-- The changes of mode.
use Rattle.std.proofs.Common.{◌≡◌, ℕ, ◌+◌, ◌<◌, Bool, true, false, List, [], ◌∷◌, ◌++◌, length, get_or, map, take, None, refl, sym, ap, ◌∙◌, subst}
use Rattle.std.specs.Prelude.{fold}
use Rattle.std.specs.List.{AllByRecursion as Each}
use Rattle.std.proofs.lemmas.List.{take_more, length-map}
use Rattle.std.proofs.lemmas.List.Sums.{fold-append}
use Rattle.spec_scan.specs.Position.{ProgramRungs}
use Rattle.spec_scan.specs.Prescan.{prescan}
use Rattle.spec_scan.specs.Executable.{IsExecutableProgram}
use Rattle.spec_machine.specs.declared.answer.Outcome.{Outcome}
use Rattle.spec_machine.specs.declared.reply.Mode.{Mode}
use Rattle.spec_machine.specs.declared.reply.Reply.TheVariants as reply
use Rattle.spec_machine.specs.Edits.{Book, no_book, book_at, selected}
use Rattle.spec_machine.specs.State.{State, Progress, no_progress, dropped, Answered}
use Rattle.spec_machine.specs.Actions.{held_or, prescan_all, mode_run, mode_run_from, mode_program, mode_program_from, clear, clear_from}
use Rattle.spec_tables.specs.Tasks.{held}
use Rattle.lgx_prog.specs.FlatProgram.{Program, IsFlatProgram}
use Rattle.lgx_edit.specs.EditsView.{EditsView, books, RunsSelected}
use Rattle.lgx_steps.specs.PartsView.{PartsView}
use Rattle.lgx_steps.specs.Plans.{IsReadyBook}
use Rattle.lgx_steps.specs.Represents.{RepresentsState}
use Rattle.lgx_steps.specs.Gives.{ViewGives}
use Rattle.lgx_steps.proofs.Elements.{each-at}
use Rattle.lgx_steps.proofs.States.{cleared}
use Rattle.lgx_steps.proofs.Beginning.{selected-executable}

-- ---- the prescan

pub can-prescan : (all : List EditsView) (tasks n len i : ℕ) (program : Program) → Each (IsReadyBook len tasks n) (books all) → i < length (books all) → RunsSelected program (book_at (books all) i) → (rungs : ProgramRungs) × IsFlatProgram program rungs × IsExecutableProgram len rungs
can-prescan all tasks n len i program ready l runs =
    (selected (book_at (books all) i), runs, selected-executable len tasks n (book_at (books all) i) (each-at (IsReadyBook len tasks n) (books all) i no_book ready l))

pub prescan-more : (bs : List Book) (i : ℕ) (program : Program) (image before after : List ℕ) → i < length bs → RunsSelected program (book_at bs i) → before ≡ prescan_all (take i bs) image → ((rungs : ProgramRungs) → IsFlatProgram program rungs → after ≡ prescan rungs before) → after ≡ prescan_all (take (i + 1) bs) image
prescan-more bs i program image before after l runs known f =
    let g : List ℕ → Book → List ℕ = λ x b. prescan (selected b) x in
    let more : take (i + 1) bs ≡ take i bs ++ get_or bs i no_book ∷ [] = take_more bs i no_book l in
    f (selected (book_at bs i)) runs ∙ (ap (λ x. prescan (selected (book_at bs i)) x) known ∙ sym (ap (λ xs. fold g image xs) more ∙ fold-append g image (take i bs) (get_or bs i no_book ∷ [])))

-- ---- flags

-- with no flag set, and nothing begun, the progress is as at the start
pub flags-cleared : (ps : List Progress) → map cleared (map dropped ps) ≡ map (λ p. no_progress) ps
flags-cleared [] = refl
flags-cleared (p ∷ ps) = ap (λ qs. no_progress ∷ qs) (flags-cleared ps)

pub marked : (fs : List Bool) → length (map (λ (b : Bool). true) fs) ≡ length fs
marked fs = length-map fs (λ (b : Bool). true)

-- ---- the answers

-- while no CPS is in progress
pub gives-free : (n : ℕ) (v : PartsView) (s : State) (outcome : Outcome) (b : Bool) (x : Answered Outcome) → b ≡ held s.table → b ≡ false → ViewGives n v outcome x → ViewGives n v outcome (held_or (held s.table) s x)
gives-free n v s outcome b x h f g = subst (λ c. ViewGives n v outcome (held_or c s x)) (sym f ∙ h) g

module _ (n : ℕ) (v : PartsView) (s : State) (outcome : Outcome) (m m' : Mode) (e : m ≡ s.mode) (is : m ≡ m') where
  pub runs-from : (b : Bool) → b ≡ held s.table → b ≡ false → ViewGives n v outcome (mode_run_from m' s) → ViewGives n v outcome (mode_run s)
  runs-from b h f g = gives-free n v s outcome b (mode_run_from s.mode s) h f (subst (λ (x : Mode). ViewGives n v outcome (mode_run_from x s)) (sym is ∙ e) g)

  pub stops-from : (b : Bool) → b ≡ held s.table → b ≡ false → ViewGives n v outcome (mode_program_from m' s) → ViewGives n v outcome (mode_program s)
  stops-from b h f g = gives-free n v s outcome b (mode_program_from s.mode s) h f (subst (λ (x : Mode). ViewGives n v outcome (mode_program_from x s)) (sym is ∙ e) g)

  pub clears-from : (b : Bool) → b ≡ held s.table → b ≡ false → ViewGives n v outcome (clear_from m' s) → ViewGives n v outcome (clear s)
  clears-from b h f g = gives-free n v s outcome b (clear_from s.mode s) h f (subst (λ (x : Mode). ViewGives n v outcome (clear_from x s)) (sym is ∙ e) g)

-- while a CPS is in progress
pub gives-held : (n : ℕ) (v : PartsView) (s : State) (outcome : Outcome) (b : Bool) (x : Answered Outcome) → b ≡ held s.table → b ≡ true → outcome ≡ record { reply = reply.Held; fault = None; released = 0 } → RepresentsState n v s → ViewGives n v outcome (held_or (held s.table) s x)
gives-held n v s outcome b x h t is r = subst (λ c. ViewGives n v outcome (held_or c s x)) (sym t ∙ h) (record { answers = is; represents = r })
