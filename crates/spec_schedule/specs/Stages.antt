-- A trace with its states, and the laws of the schedule that speak of them: the version law of the rungs, the copy law
-- and the refusal law.
use Rattle.std.specs.Prelude.{◌≡◌, ℕ, ◌+◌, ◌*◌, List, [], ◌∷◌, fold, slice_range, Bool, true, false, not, ◌&&◌, ◌||◌, nat_le, nat_eq, if◌then◌else◌, Option, Some, None, Result, Ok, Err, IfSome, IsTrue, ⊤, find}
use Rattle.std.specs.List.{AllByRecursion}
use Rattle.std.specs.Str.{bytes_eq}
use Rattle.spec_machine.specs.declared.event.Action.{Action}
use Rattle.spec_machine.specs.declared.event.Event.{Event}
use Rattle.spec_machine.specs.declared.answer.What.{What}
use Rattle.spec_machine.specs.declared.answer.What.TheVariants.{Began}
use Rattle.spec_machine.specs.declared.answer.Mark.TheVariants.{CopyStart, CopyEnd}
use Rattle.spec_scan.specs.declared.bound.Copying.{Copying}
use Rattle.spec_machine.specs.declared.reply.EditFault.{EditFault}
use Rattle.spec_machine.specs.declared.reply.Reply.{Reply}
use Rattle.spec_machine.specs.declared.reply.Reply.TheVariants as reply
use Rattle.spec_scan.specs.Position.{ProgramRungs}
use Rattle.spec_machine.specs.Edits.{Book, Edited, edit, book_at, selected}
use Rattle.spec_machine.specs.ProcessorStep.{task_of}
use Rattle.spec_machine.specs.Project.{Project}
use Rattle.spec_machine.specs.ValidProject.{IsValidProject}
use Rattle.spec_machine.specs.State.{State, Scan, progress_of, start}
use Rattle.spec_schedule.specs.Counting.{is_task}
use Rattle.spec_schedule.specs.Legal.{each_from}
use Rattle.spec_machine.specs.Machine.{TraceEntry, OfStep, OfAction, step, run}
use Rattle.spec_schedule.specs.Refusals.{first_cause}

-- an event with its answer, and the states before and after it
pub record Stage : Type 0 where
  pub before : State
  pub entry : TraceEntry
  pub after : State

abbrev pub stages_from : State → List Event → List Stage
stages_from s [] = []
stages_from s (e ∷ es) =
    let x = step s e in record { before = s; entry = x.answer; after = x.state } ∷ stages_from x.state es

abbrev pub stages : Project → List Event → List Stage
stages p journal = stages_from (start p) journal

-- the reply to an action is Held or a refusal
abbrev pub is_refusal : Reply → Bool
is_refusal reply.Done = false
is_refusal (reply.Word v) = false
is_refusal (reply.Version n) = false
is_refusal _ = true

-- ---- the version law of the rungs

-- the rungs that the accepted commands select, and for one task those that were selected at its last begin
pub record SelectedRungs : Type 0 where
  pub books : List Book
  pub begun : Option ProgramRungs

-- a command that isn't refused is applied to the books, and nothing else changes them
abbrev pub books_or : List Book → Option (Result Edited EditFault) → List Book
books_or books None = books
books_or books (Some (Err f)) = books
books_or books (Some (Ok e)) = e.books

abbrev pub commanded : State → TraceEntry → List Book → List Book
commanded s (OfAction lane action o) books =
    if is_refusal o.reply then books else books_or books (edit s.plan.tags s.plan.names books lane action)
commanded s _ books = books

abbrev pub begins : ℕ → TraceEntry → List Book → Option ProgramRungs → Option ProgramRungs
begins t (OfStep m) books begun = go m.what
  where
    go : What → Option ProgramRungs
    go (Began u g v) = if nat_eq u t then Some (selected (book_at books g)) else begun
    go _ = begun
begins t _ books begun = begun

abbrev pub selected_after : ℕ → SelectedRungs → Stage → SelectedRungs
selected_after t c x = record { books = commanded x.before x.entry c.books; begun = begins t x.entry c.books c.begun }

abbrev pub begun_by : ℕ → List Book → List Stage → Option ProgramRungs
begun_by t books xs = (fold (selected_after t) (record { books = books; begun = None }) xs).begun

abbrev pub scan_in_progress : State → ℕ → Option Scan
scan_in_progress s t = (progress_of s t).scan

-- After each event, the rungs of a task's scan are those that the accepted commands before its begin select.
abbrev pub ScansKeepRungs : Project → Type 0
ScansKeepRungs p =
    (journal : List Event) (t : ℕ) → IfSome (scan_in_progress (run p journal) t) (λ scan. begun_by t (start p).books (stages p journal) ≡ Some scan.rungs)

-- ---- the copy law

-- the task that starts a CPS in this step, and the one that copies the last element of one
abbrev pub sync_start : TraceEntry → Option ℕ
sync_start (OfStep m) = elim m.mark [ CopyStart sync ↦ (if sync then task_of m.what else None) | _ ↦ None ]
sync_start _ = None

abbrev pub sync_end : TraceEntry → Option ℕ
sync_end (OfStep m) = elim m.mark [ CopyEnd sync ↦ (if sync then task_of m.what else None) | _ ↦ None ]
sync_end _ = None

abbrev pub starts_or_ends : ℕ → Stage → Bool
starts_or_ends t x = is_task t (sync_start x.entry) || is_task t (sync_end x.entry)

abbrev pub length_of : Copying → ℕ
length_of c = c.size * c.left

-- the two ranges share no byte
abbrev pub is_apart : Copying → Bool
is_apart c = nat_le (c.source + length_of c) c.target || nat_le (c.target + length_of c) c.source

abbrev pub is_copied : Copying → State → State → Bool
is_copied c started ended =
    bytes_eq (slice_range ended.image c.target (c.target + length_of c)) (slice_range started.image c.source (c.source + length_of c))

abbrev pub copy_in : State → ℕ → Option Copying
copy_in s t = elim (scan_in_progress s t) [ None ↦ None | Some scan ↦ scan.position.copy ]

-- at the end of the CPS that t started with stage x, the first of its later stages that start or end one
abbrev pub ends_whole : ℕ → Stage → Option Copying → Option Stage → Bool
ends_whole t x (Some c) (Some y) = not (is_task t (sync_end y.entry) && is_apart c) || is_copied c x.after y.after
ends_whole t x _ _ = true

abbrev pub keeps_copy : Stage → List Stage → Bool
keeps_copy x xs = elim (sync_start x.entry) [
  | None ↦ true
  | Some t ↦ ends_whole t x (copy_in x.after t) (find (starts_or_ends t) xs)
]

-- Where a CPS has copied its last element and its ranges share no byte, the destination's bytes are the source's as they
-- were right after the step that started it. Without a valid project it is false: a copy past the image's end writes
-- nothing there.
abbrev pub CopiesAreWhole : Project → Type 0
CopiesAreWhole p = IsValidProject p → (journal : List Event) → IsTrue (each_from keeps_copy (stages p journal))

-- ---- the refusal law

-- an action that is held or refused carries the first cause that applies, and the state after it is the state before
abbrev pub IsRefusedRightly : State → ℕ → Action → State → Reply → Type 0
IsRefusedRightly before lane action after r = (first_cause before lane action ≡ Some r) × (after ≡ before)

abbrev pub KeepsState : Stage → Type 0
KeepsState x = go x.entry
  where
    go : TraceEntry → Type 0
    go (OfAction lane action o) = elim (is_refusal o.reply) [ true ↦ IsRefusedRightly x.before lane action x.after o.reply | false ↦ ⊤ ]
    go _ = ⊤

abbrev pub RefusalsChangeNothing : Project → Type 0
RefusalsChangeNothing p = (journal : List Event) → AllByRecursion KeepsState (stages p journal)
