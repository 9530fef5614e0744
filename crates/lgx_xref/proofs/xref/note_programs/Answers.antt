-- One program more, and all programs.
use Rattle.std.proofs.Common.{◌∙◌}
use Rattle.spec_uses.specs.Uses.{reads_tag, writes_tag}
use Rattle.lgx_xref.specs.Apart.{span_in}
use Rattle.lgx_xref.proofs.Indexed.{program_noted, programs_noted}
use Rattle.lgx_xref.proofs.Noted.{gains_none}
use Rattle.lgx_xref.proofs.xref.note_programs.Goals as goal

pub loop-i-init : goal.loop-i-init
loop-i-init c = record {
  writer_lists = c.requires.writer_lists;
  reader_lists = c.requires.reader_lists;
  writers = gains_none c.args.writers.now.items;
  readers = gains_none c.args.readers.now.items;
}

pub loop-i-preserved : goal.loop-i-preserved
loop-i-preserved c =
    let spans = c.args.spans.now in
    let programs = c.args.programs.now in
    let i = c.loop-i.i in
    record {
      writer_lists = c.in_ok-note_program.ensures.writers.size ∙ c.loop-i.invariant.writer_lists;
      reader_lists = c.in_ok-note_program.ensures.readers.size ∙ c.loop-i.invariant.reader_lists;
      writers =
          program_noted (λ k. writes_tag (span_in spans k)) programs i c.index-programs-i.result c.in_ok-numbered.field-0 _ _ _
          c.loop-i-test.true c.index-programs-i.is c.in_ok-numbered.ensures c.loop-i.invariant.writers c.in_ok-note_program.ensures.writers;
      readers =
          program_noted (λ k. reads_tag (span_in spans k)) programs i c.index-programs-i.result c.in_ok-numbered.field-0 _ _ _
          c.loop-i-test.true c.index-programs-i.is c.in_ok-numbered.ensures c.loop-i.invariant.readers c.in_ok-note_program.ensures.readers;
    }

pub returns : goal.returns
returns c = record {
  writers =
      programs_noted (λ k. writes_tag (span_in c.args.spans.now k)) c.args.programs.now c.loop-i.i _ _ c.loop-i-test.false c.loop-i.invariant.writers;
  readers =
      programs_noted (λ k. reads_tag (span_in c.args.spans.now k)) c.args.programs.now c.loop-i.i _ _ c.loop-i-test.false c.loop-i.invariant.readers;
}
