-- As many instructions as were passed are noted.
use Rattle.std.proofs.Common.{◌≡◌, length, take}
use Rattle.spec_machine.specs.Project.{ProgramText}
use Rattle.spec_uses.specs.Uses.{program_instructions, writes_tag}
use Rattle.lgx_xref.specs.Apart.{span_in}
use Rattle.lgx_xref.specs.Gains.{Gains, uses_among}
use Rattle.lgx_xref.specs.Returns.{AreReturnsIn}
use Rattle.lgx_xref.proofs.note.note_writers.Given as goal

abbrev pub invariant-loop-site : goal.invariant-loop-site
invariant-loop-site l = record {
  size : length l.writers.items ≡ length l.spans;
  gains : (program : ProgramText) → AreReturnsIn l.spans (program_instructions program) l.returns
      → Gains l.fn.writers.items l.writers.items (λ k. uses_among (writes_tag (span_in l.spans k) program) (take l.site-index l.placed));
}
