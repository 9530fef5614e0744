-- The selected version is flat code of the selected rungs.
use Rattle.std.proofs.Common.{subst, sym}
use Rattle.lgx_prog.specs.FlatProgram.{Program}
use Rattle.lgx_edit.specs.EditsView.{EditsView, RunsSelected}
use Rattle.lgx_edit.specs.Seen.{view_of}
use Rattle.lgx_edit.proofs.Tied.{selected-runs}
use Rattle.lgx_edit.proofs.edits.ProgramEdits.selected.Goals as goal

pub returns-clause-runs : goal.returns-clause-runs
returns-clause-runs c =
    subst (λ (e : EditsView). RunsSelected c.selected_program.result.now e.book) c.self.view_is
    (subst (λ (p : Program). RunsSelected p (view_of c.self.inside).book) (sym c.selected_program.ensures)
    (selected-runs (view_of c.self.inside).book c.self.inside.versions.roles c.self.invariant))
