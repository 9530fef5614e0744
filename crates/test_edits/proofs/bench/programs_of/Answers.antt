-- Each is checked as the program of its number.
use Rattle.std.proofs.Common.{List, sym, subst, ◌∙◌}
use Rattle.lgx_edit.specs.declared.texts.ProgramText.{ProgramText}
use Rattle.test_edits.specs.Programs.{ArePrograms}
use Rattle.test_edits.proofs.Checked.{one-more}
use Rattle.test_edits.proofs.bench.programs_of.Goals as goal

pub loop-program-preserved : goal.loop-program-preserved
loop-program-preserved c =
    subst (λ (ps : List ProgramText). ArePrograms c.args.tags.now.declarations ps) (sym c.in_ok-push.ensures.items)
    (one-more c.args.tags.now.declarations c.len-number.result c.loop-program.programs.items c.in_ok-program_of.field-0 (c.len-number.ensures ∙ c.loop-program.programs.ok.0) c.loop-program.invariant c.in_ok-program_of.ensures)
