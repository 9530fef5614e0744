-- The texts of routines and the accepted edits, as the machine has them.
use Rattle.std.specs.Prelude.{map, None, unwrap_or}
use Rattle.spec_machine.specs.Project as machine
use Rattle.spec_machine.specs.Edits.{Change, Replaced, Inserted, Deleted, AcceptedEdit}
use Rattle.lgx_edit.specs.declared.texts.RoutineText.{RoutineText}
use Rattle.lgx_edit.specs.declared.texts.ProgramText.{ProgramText}
use Rattle.lgx_edit.specs.declared.shared.SharedText.{SharedText}
use Rattle.lgx_edit.specs.Shared.{sources, checkeds}
use Rattle.lgx_edit.specs.declared.changes.RungChange.{RungChange}
use Rattle.lgx_edit.specs.declared.changes.RungChange.TheVariants.{Replace, Insert, Delete}
use Rattle.lgx_edit.specs.declared.changes.KeptEdit.{KeptEdit}
use Rattle.lgx_edit.specs.declared.changes.EditedRoutine.{EditedRoutine}

abbrev pub routine_of : RoutineText → machine.RoutineText
routine_of r = record { name = r.name; source = r.source; checked = r.checked }

abbrev pub program_of : ProgramText → machine.ProgramText
program_of p = record { name = p.name; routines = map routine_of p.routines; main = p.main }

abbrev pub text_of : SharedText → machine.RoutineText
text_of t = record { name = t.name; source = sources t.rungs; checked = checkeds t.rungs }

abbrev pub base_of : EditedRoutine → machine.RoutineText
base_of r = text_of r.base

-- a routine without accepted edits is as in the base
abbrev pub merged_of : EditedRoutine → machine.RoutineText
merged_of r = text_of (unwrap_or r.merged r.base)

-- a routine without accepted edits
abbrev pub unedited : SharedText → EditedRoutine
unedited r = record { base = r; merged = None }

-- the merged rungs as the base
abbrev pub assembled : EditedRoutine → EditedRoutine
assembled r = record { base = unwrap_or r.merged r.base; merged = None }

-- the base alone
abbrev pub cancelled : EditedRoutine → EditedRoutine
cancelled r = record r { merged = None }

abbrev pub change_of : RungChange → Change
change_of (Replace i new) = Replaced i new
change_of (Insert i new) = Inserted i new
change_of (Delete i) = Deleted i

abbrev pub accepted_of : KeptEdit → AcceptedEdit
accepted_of e = record { routine = e.routine; change = change_of e.change }
