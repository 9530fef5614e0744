use Rattle.std.proofs.Common.{refl, ◌∙◌}
use Rattle.spec_schedule.specs.declared.trace.TraceEvent.TheVariants.{Tick}
use Rattle.lgx_laws.proofs.Masks.{masks_at}
use Rattle.lgx_laws.proofs.ticks.tells_due.Goals as goal

pub returns-in-None : goal.returns-in-None
returns-in-None c cs ns past shown run =
    c.are_masks.ensures
    ∙ masks_at c.args.tasks.now c.args.counts.now cs ns past c.args.run shown c.requires.many run (Tick c.args.released c.args.overlapped c.args.watchdog) c.args.released c.args.overlapped c.args.watchdog c.mask_due-coming.result c.mask_due-again.result refl c.in-None.is c.mask_due-coming.ensures c.mask_due-again.ensures
