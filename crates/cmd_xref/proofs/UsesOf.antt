-- The lines of a tag's uses stand after the line of its name.
use Rattle.std.proofs.Common.{◌≡◌, ℕ, zero, suc, ◌-◌, ◌<◌, ◌≤◌, List, length, map, Some, sym, ap, ◌∙◌, subst, arith}
use Rattle.std.specs.Prelude.{slice_get}
use Rattle.lgx_edit.specs.declared.texts.ProgramText.{ProgramText}
use Rattle.lgx_edit.specs.Texts.{program_of}
use Rattle.spec_machine.specs.Project.{Project}
use Rattle.spec_uses.specs.declared.uses.Use.{Use}
use Rattle.spec_uses.specs.Uses.{writers, readers}
use Rattle.cmd_xref.specs.XrefText.{use_lines, tag_lines}

-- the lines of the uses that a project tells of a tag
pub lines_are : (p : Project) (k : ℕ) (programs : List ProgramText) (ws rs : List Use)
    → map program_of programs ≡ p.programs → ws ≡ writers p k → rs ≡ readers p k
    → use_lines (map program_of programs) ws rs ≡ use_lines p.programs (writers p k) (readers p k)
lines_are p k programs ws rs same by_writers by_readers =
    ap (λ qs. use_lines qs ws rs) same ∙ ap (λ us. use_lines p.programs us rs) by_writers ∙ ap (use_lines p.programs (writers p k)) by_readers

pub line_after_name : (p : Project) (k at : ℕ) (lines : List (List ℕ)) (line : List ℕ) → 0 < at → lines ≡ use_lines p.programs (writers p k) (readers p k)
    → slice_get lines (at - 1) ≡ Some line → slice_get (tag_lines p k) at ≡ Some line
line_after_name p k zero lines line some are is = absurd (omega (arith, some))
line_after_name p k (suc n) lines line some are is =
    let less : n ≡ suc n - 1 = omega arith in
    ap (λ ls. slice_get ls n) (sym are) ∙ ap (slice_get lines) less ∙ is

pub none_after_name : (p : Project) (k at : ℕ) (lines : List (List ℕ)) → 0 < at → lines ≡ use_lines p.programs (writers p k) (readers p k)
    → length lines ≤ at - 1 → length (tag_lines p k) ≤ at
none_after_name p k at lines some are past =
    subst (λ (ls : List (List ℕ)). suc (length ls) ≤ at) are (omega (arith, some, past))
