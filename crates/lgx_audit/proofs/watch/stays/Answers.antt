use Rattle.std.proofs.Common.{List, ◌∙◌, arith, ap}
use Rattle.std.specs.Prelude.{slice_index_or, nat_eq}
use Rattle.lgx_audit.specs.declared.counts.Count.{Count}
use Rattle.spec_schedule.specs.declared.trace.AuditTask.{AuditTask}
use Rattle.spec_schedule.specs.Counting.{uncounted, counted}
use Rattle.spec_schedule.specs.Legal.{no_task}
use Rattle.lgx_audit.proofs.Watched.{stays_at}
use Rattle.lgx_audit.proofs.watch.stays.Goals as goal

pub returns : goal.returns
returns c cs h =
    let m = c.requires.many in
    let l = h.many in
    let w = c.requires.task in
    let is = h.each c.args.t (omega arith) in
    ap (λ (x : Count). nat_eq x.downs c.counted-after.result.downs) is
    ∙ (ap (λ (r : Count). nat_eq (slice_index_or cs c.args.t uncounted).downs r.downs) (c.counted-after.ensures.counts (slice_index_or cs c.args.t uncounted) is)
    ∙ ap (λ (ds : List AuditTask). nat_eq (slice_index_or cs c.args.t uncounted).downs (counted (slice_index_or ds c.args.t no_task) c.args.t c.args.e.now (slice_index_or cs c.args.t uncounted)).downs) c.as_slice-tasks.ensures)
    ∙ stays_at c.args.table.now c.args.e.now cs c.args.t (omega arith) (omega arith)
