-- As many instructions as were passed are noted.
use Rattle.std.proofs.Common.{◌≡◌, length, take}
use Rattle.spec_machine.specs.Project.{ProgramText}
use Rattle.spec_uses.specs.Uses.{reads_tag}
use Rattle.lgx_xref.specs.Apart.{span_in}
use Rattle.lgx_xref.specs.Gains.{Gains, uses_among}
use Rattle.lgx_xref.proofs.note.note_readers.Given as goal

abbrev pub invariant-loop-site : goal.invariant-loop-site
invariant-loop-site l = record {
  size : length l.readers.items ≡ length l.spans;
  gains : (program : ProgramText)
      → Gains l.fn.readers.items l.readers.items (λ k. uses_among (reads_tag (span_in l.spans k) program) (take l.site-index l.placed));
}
