use Rattle.std.proofs.Common.{ap, ◌∙◌, arith}
use Rattle.spec_schedule.specs.Counting.{stepping}
use Rattle.lgx_laws.proofs.ScansAt.{begins_at}
use Rattle.lgx_laws.proofs.scans.keeps_scans.Goals as goal

pub bounds-schedule-t : goal.bounds-schedule-t
bounds-schedule-t c = c.requires.within c.in-Began.task (ap stepping c.in-Began.is)

pub bounds-counts-t : goal.bounds-counts-t
bounds-counts-t c = let m = c.requires.many in let w = c.requires.within c.in-Began.task (ap stepping c.in-Began.is) in omega arith

pub bounds-kept-t : goal.bounds-kept-t
bounds-kept-t c = let m = c.requires.kept in let w = c.requires.within c.in-Began.task (ap stepping c.in-Began.is) in omega arith

pub bounds-kept-task : goal.bounds-kept-task
bounds-kept-task c = let m = c.requires.kept in let w = c.requires.within c.in-Step.task (ap stepping c.in-Step.is) in omega arith

pub bounds-kept-task-in-Left : goal.bounds-kept-task-in-Left
bounds-kept-task-in-Left c = let m = c.requires.kept in let w = c.requires.within c.in-Left.task (ap stepping c.in-Left.is) in omega arith

pub returns-in-Began : goal.returns-in-Began
returns-in-Began c cs ns past shown kept =
    let m = c.requires.many in
    let n = shown.many in
    let w = c.requires.within c.in-Began.task (ap stepping c.in-Began.is) in
    let t = c.in-Began.task in
    c.begins_next.ensures
    ∙ begins_at c.args.schedule.now c.args.counts.now c.args.kept.now cs ns past c.args.e.now t c.in-Began.program c.in-Began.version _ _ shown kept (omega arith) w c.in-Began.is (c.as_slice.ensures ∙ c.index-schedule-t.is)
