use Rattle.std.proofs.Common.{◌+◌, List, sym, ap, ◌∙◌, arith, subst}
use Rattle.spec_base.specs.Pieces.{pieces}
use Rattle.spec_schedule.specs.declared.trace.TraceEvent.{TraceEvent}
use Rattle.lgx_audit.specs.TraceTable.{AreInTable}
use Rattle.lgx_audit.specs.TraceReading.{trace_from}
use Rattle.lgx_audit.specs.Answers.{after_events}
use Rattle.lgx_audit.proofs.ReadLines.{line_ends, line_refused, line_read, read_known, more_known}
use Rattle.lgx_audit.proofs.read.read_lines.Goals as goal

pub returns-then-is_end-clause-trace : goal.returns-then-is_end-clause-trace
returns-then-is_end-clause-trace c =
    sym c.loop-line.invariant.same
    ∙ line_ends c.loop-line.trace.items (c.loop-line.number + 1) c.args.table.now c.loop-line.rest.now c.in-Some.line.now c.in-Some.after.now c.in-Some.ensures.some (sym c.is_end.ensures ∙ c.if-is_end.true)

pub returns-in-Err-clause-fault : goal.returns-in-Err-clause-fault
returns-in-Err-clause-fault c =
    sym c.loop-line.invariant.same
    ∙ line_refused c.loop-line.trace.items (c.loop-line.number + 1) c.args.table.now c.loop-line.rest.now c.in-Some.line.now c.in-Some.after.now c.in-Err.code c.in-Some.ensures.some (sym c.is_end.ensures ∙ c.if-is_end.false) (sym c.read_line.ensures ∙ c.in-Err.is)

pub loop-line-preserved : goal.loop-line-preserved
loop-line-preserved c =
    let es = c.loop-line.trace.items in
    let t = c.args.table.now in
    let e = c.in-Ok.event in
    let read = sym c.read_line.ensures ∙ c.in-Ok.is in
    record {
      same =
          ap (λ (xs : List TraceEvent). after_events xs (trace_from (c.loop-line.number + 1 + 1) t (pieces 10 c.in-Some.after.now))) c.in_ok-add-in-Ok.ensures
          ∙ line_read es (c.loop-line.number + 1) t c.loop-line.rest.now c.in-Some.line.now c.in-Some.after.now e c.in-Some.ensures.some (sym c.is_end.ensures ∙ c.if-is_end.false) read
          ∙ c.loop-line.invariant.same;
      known = subst (λ (xs : List TraceEvent). AreInTable t xs) (sym c.in_ok-add-in-Ok.ensures) (more_known t es e c.loop-line.invariant.known (read_known t c.in-Some.line.now e read));
      number = (let a = c.loop-line.invariant.number in let b = c.in-Some.ensures.shorter in omega arith);
    }
