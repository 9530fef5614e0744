use Rattle.std.proofs.Common.{List, ap, sym, ◌∙◌}
use Rattle.lgx_edit.specs.declared.texts.ProgramText.{ProgramText}
use Rattle.test_edits.specs.Mains.{have_mains}
use Rattle.test_edits.proofs.AllMains.{all_mains}
use Rattle.test_edits.proofs.bench.book_of.Goals as goal

pub new-requires : goal.new-requires
new-requires c =
    all_mains c.args.programs.items
    (ap (λ (ps : List ProgramText). have_mains ps) (sym c.as_slice.ensures.value) ∙ (sym c.have_mains.ensures ∙ c.if-not-have_mains.false))
