-- As many programs as were passed are noted.
use Rattle.std.proofs.Common.{◌≡◌, length, map, take}
use Rattle.std.specs.Prelude.{flat_map}
use Rattle.std.specs.List.{enumerate_from}
use Rattle.lgx_edit.specs.Texts.{program_of}
use Rattle.spec_uses.specs.Uses.{reads_tag, writes_tag}
use Rattle.lgx_xref.specs.Apart.{span_in}
use Rattle.lgx_xref.specs.Gains.{Gains, program_uses}
use Rattle.lgx_xref.proofs.xref.note_programs.Given as goal

abbrev pub invariant-loop-i : goal.invariant-loop-i
invariant-loop-i l = record {
  writer_lists : length l.writers.items ≡ length l.spans;
  reader_lists : length l.readers.items ≡ length l.spans;
  writers : Gains l.fn.writers.items l.writers.items
      (λ k. flat_map (program_uses (writes_tag (span_in l.spans k))) (enumerate_from 0 (map program_of (take l.i l.programs))));
  readers : Gains l.fn.readers.items l.readers.items
      (λ k. flat_map (program_uses (reads_tag (span_in l.spans k))) (enumerate_from 0 (map program_of (take l.i l.programs))));
}
