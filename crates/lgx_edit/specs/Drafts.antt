-- What an accept makes before it changes a book.
use Rattle.std.specs.Prelude.{◌≡◌, ℕ, ◌++◌, List, map, filter_map, length, slice_set}
use Rattle.spec_language.specs.Checked.{CheckScope}
use Rattle.spec_machine.specs.Project as machine
use Rattle.spec_machine.specs.Edits.{Book, Change, AcceptedEdit, change_in, merged, routine_at, with_changes}
use Rattle.spec_machine.specs.declared.event.RungEdit.{RungEdit}
use Rattle.lgx_prog.specs.FlatProgram.{IsFlatProgram}
use Rattle.lgx_edit.specs.declared.changes.KeptEdit.{KeptEdit}
use Rattle.lgx_edit.specs.declared.changes.EditedRoutine.{EditedRoutine}
use Rattle.lgx_edit.specs.declared.shared.SharedText.{SharedText}
use Rattle.lgx_edit.specs.declared.draft.Against.{Against}
use Rattle.lgx_edit.specs.declared.draft.Draft.{Draft}
use Rattle.lgx_edit.specs.EditsView.{rungs_of}
use Rattle.lgx_edit.specs.Shared.{sources, checkeds}
use Rattle.lgx_edit.specs.Texts.{change_of, accepted_of, text_of, base_of, merged_of}

abbrev pub change_kept : KeptEdit → Change
change_kept k = change_of k.change

abbrev pub edit_of : ℕ → Change → AcceptedEdit
edit_of routine change = record { routine = routine; change = change }

-- all these edits are of this routine
abbrev pub AreInRoutine : ℕ → List KeptEdit → Type 0
AreInRoutine routine kept = map accepted_of kept ≡ map (edit_of routine) (map change_kept kept)

-- the merged routines, where one of them is another from now on
abbrev pub routines_with : ℕ → SharedText → List EditedRoutine → List machine.RoutineText
routines_with r text routines = slice_set (map merged_of routines) r (text_of text)

-- what the rungs of a program's routine are checked against
abbrev pub scope_against : Against → List EditedRoutine → CheckScope
scope_against a routines = record {
  tags = a.tags.now.declarations;
  program = a.program;
  routines = map (λ r. r.name) (map base_of routines);
  tasks = a.tasks.now;
}

-- the changes of a routine among these edits
abbrev pub changes_so_far : ℕ → List KeptEdit → List Change
changes_so_far routine kept = filter_map (change_in routine) (map accepted_of kept)

-- the book has these routines and accepted edits
pub record IsBookOf (b : Book) (routines : List EditedRoutine) (accepted : List KeptEdit) : Type 0 where
  pub bases : b.base ≡ map base_of routines
  pub mergeds : b.merged ≡ map merged_of routines
  pub kept : b.accepted ≡ map accepted_of accepted

-- the book after the draft
abbrev pub with_draft : ℕ → ℕ → Book → Draft → Book
with_draft lane r b d = with_changes lane r (map change_kept d.edits.items) (sources d.text.rungs) (checkeds d.text.rungs) b

-- The edits are of the routine, as many as were asked for; the text is the merged one under its name; and the program is
-- flat code of the merged rungs.
pub record IsDraft (main r : ℕ) (routines : List EditedRoutine) (accepted : List KeptEdit) (edits : List RungEdit) (d : Draft) : Type 0 where
  pub routine : AreInRoutine r d.edits.items
  pub count : length d.edits.items ≡ length edits
  pub name : d.text.name ≡ (routine_at (map merged_of routines) r).name
  pub source : sources d.text.rungs ≡ merged (routine_at (map base_of routines) r).source (changes_so_far r accepted ++ map change_kept d.edits.items)
  pub program : IsFlatProgram d.program (rungs_of main (routines_with r d.text routines))
