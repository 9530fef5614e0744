use Rattle.std.proofs.Common.{◌≡◌, ◌+◌, List, ◌++◌, replicate, ap, sym, ◌∙◌, arith}
use Rattle.spec_machine.specs.declared.event.Event.{Event}
use Rattle.spec_text.specs.JournalText.{journal_of}
use Rattle.lgx_journal.specs.Reading.{read_after}
use Rattle.lgx_journal.proofs.ReadRuns.{after_skipped, after_last, after_line, counted_more}
use Rattle.lgx_journal.proofs.read.read_lines.Goals as goal

pub lines-preserved-then-is_skipped : goal.lines-preserved-then-is_skipped
lines-preserved-then-is_skipped c =
    let n = c.lines.number + 1 + c.read_counts-counts.result.0 in
    let es = c.read_counts-counts.new.journal.events in
    let t = c.read_counts-counts.new.tally in
    let rest = c.read_counts-counts.result.1.now in
    let before : read_after es n t rest ≡ journal_of c.args.bytes.now =
    c.read_counts-counts.ensures.same (c.lines.number + 1) ∙ ap (λ (xs : List Event). read_after xs (c.lines.number + 1) c.lines.tally c.lines.rest.now) c.in_ok-reserve.ensures.events ∙ c.lines.invariant.same in
    record {
      same = after_skipped es n (c.lines.number + c.read_counts-counts.result.0 + 1 + 1) t c.in-Some.line.now rest c.in-Some.after.now (journal_of c.args.bytes.now) c.in-Some.ensures.some (sym c.is_skipped.ensures ∙ c.if-is_skipped.true) (omega arith) before;
      size = c.read_counts-counts.ensures.size;
      number = omega (arith, c.in-Some.ensures.shorter, c.read_counts-counts.ensures.number);
    }

pub returns-then-is_last-clause-journal : goal.returns-then-is_last-clause-journal
returns-then-is_last-clause-journal c =
    let n = c.lines.number + 1 + c.read_counts-counts.result.0 in
    let es = c.read_counts-counts.new.journal.events in
    let t = c.read_counts-counts.new.tally in
    let rest = c.read_counts-counts.result.1.now in
    let before : read_after es n t rest ≡ journal_of c.args.bytes.now =
    c.read_counts-counts.ensures.same (c.lines.number + 1) ∙ ap (λ (xs : List Event). read_after xs (c.lines.number + 1) c.lines.tally c.lines.rest.now) c.in_ok-reserve.ensures.events ∙ c.lines.invariant.same in
    after_last es n t c.in-Some.line.now rest c.in-Some.after.now (journal_of c.args.bytes.now) c.in-Some.ensures.some (sym c.is_skipped.ensures ∙ c.if-is_skipped.false) (sym c.is_last.ensures ∙ c.if-is_last.true) before

pub lines-preserved : goal.lines-preserved
lines-preserved c =
    let n = c.lines.number + 1 + c.read_counts-counts.result.0 in
    let es = c.read_counts-counts.new.journal.events in
    let t = c.read_counts-counts.new.tally in
    let rest = c.read_counts-counts.result.1.now in
    let run = c.in-Ok.run' in
    let before : read_after es n t rest ≡ journal_of c.args.bytes.now =
    c.read_counts-counts.ensures.same (c.lines.number + 1) ∙ ap (λ (xs : List Event). read_after xs (c.lines.number + 1) c.lines.tally c.lines.rest.now) c.in_ok-reserve.ensures.events ∙ c.lines.invariant.same in
    let added = c.add_run.ensures.events ∙ ap (λ (xs : List Event). xs ++ replicate run.count run.event) c.in_ok-reserve-2.ensures.events in
    record {
      same = after_line es c.add_run.new.self.events n (c.lines.number + c.read_counts-counts.result.0 + 1 + 1) t c.read_line.new.self c.in-Some.line.now rest c.in-Some.after.now run (journal_of c.args.bytes.now) c.in-Some.ensures.some
          (sym c.is_skipped.ensures ∙ c.if-is_skipped.false) (sym c.is_last.ensures ∙ c.if-is_last.false) c.in-Ok.ensures.run added c.in-Ok.ensures.counted (omega arith) before;
      size = counted_more t c.read_line.new.self run es c.add_run.new.self.events c.read_counts-counts.ensures.size c.in-Ok.ensures.counted added;
      number = omega (arith, c.in-Some.ensures.shorter, c.read_counts-counts.ensures.number);
    }
