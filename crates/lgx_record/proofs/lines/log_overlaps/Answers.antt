use Rattle.std.proofs.Common.{◌≡◌, ap, ◌∙◌, arith}
use Rattle.spec_base.specs.declared.limits.TheConstants.{MAX_TASKS}
use Rattle.lgx_watch.specs.Kept.{KeptLines}
use Rattle.lgx_record.specs.EventLines.{with_event_lines, overlap_lines}
use Rattle.lgx_record.proofs.Overlaps.{overlap-taken, overlap-skipped}
use Rattle.lgx_record.proofs.lines.log_overlaps.Goals as goal
use Rattle.lgx_record.proofs.lines.log_overlaps.Goals.{then-overlapped-task-eq1, else-overlapped-task-eq1}

pub loop-task-preserved : goal.loop-task-preserved
loop-task-preserved c =
    elim c.if-overlapped-task-eq1.branch [
      | then-overlapped-task-eq1 w ↦ record {
        lines = λ s h. w.log-is ∙ overlap-taken s c.args.overlapped c.loop-task.task c.args.log.now c.loop-task.log w.log_line.new.log c.args.at w.task_fault.result (c.loop-task.invariant.lines s h) w.if-overlapped-task-eq1.true (w.task_fault.ensures s h) w.log_line.ensures.log;
        lost = (let e = ap (λ (k : KeptLines). k.lost) w.log-is in let more = w.log_line.ensures.lost in let before = c.loop-task.invariant.lost in omega arith);
      }
      | else-overlapped-task-eq1 w ↦ record {
        lines = λ s h. w.log-is ∙ overlap-skipped s c.args.overlapped c.loop-task.task c.args.log.now c.loop-task.log c.args.at (c.loop-task.invariant.lines s h) w.if-overlapped-task-eq1.false;
        lost = (let e = ap (λ (k : KeptLines). k.lost) w.log-is in let before = c.loop-task.invariant.lost in omega arith);
      }
    ]

pub returns-clause-log : goal.returns-clause-log
returns-clause-log c = λ s h.
    let all : c.loop-task.task ≡ MAX_TASKS = omega arith in
    c.loop-task.invariant.lines s h ∙ ap (λ n. with_event_lines c.args.log.now c.args.at (overlap_lines s c.args.overlapped n)) all
