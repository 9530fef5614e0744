use Rattle.std.proofs.Common.{◌∙◌, Ok, ap}
use Rattle.lgx_answer.proofs.Written.{written_more, written_so_far, puts_part}
use Rattle.lgx_answer.proofs.puts.write_lines.Goals as goal

pub loop-line-preserved : goal.loop-line-preserved
loop-line-preserved g c =
    let puts = c.in-Ok.ensures in
    record {
      written = written_more _ _ _ _ _ _ _ _ c.loop-line.invariant.written (c.in-Ok-true.ensures.more (ap (λ b. Ok b) c.in-Ok-true.field-0-test)) c.deref.ensures.value puts.whole;
      unfailed = puts.unfailed (λ e. absurd (cc e)) ∙ c.loop-line.invariant.unfailed;
    }

pub returns-in-Err-put_text : goal.returns-in-Err-put_text
returns-in-Err-put_text g c =
    puts_part _ _ _ _ _ _ _ _ _ _ _ _ c.loop-line.invariant.written c.loop-line.invariant.unfailed (c.in-Ok-true.ensures.more (ap (λ b. Ok b) c.in-Ok-true.field-0-test)) c.deref.ensures.value c.in-Err-put_text.ensures

pub returns-in-Err : goal.returns-in-Err
returns-in-Err g c = record {
  whole = tt;
  part = written_so_far _ _ _ _ c.loop-line.invariant.written;
  failed = λ e. absurd (cc e);
  unfailed = λ e. c.loop-line.invariant.unfailed;
}
