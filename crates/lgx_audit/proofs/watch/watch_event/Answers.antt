use Rattle.std.proofs.Common.{◌∙◌, sym, arith}
use Rattle.lgx_audit.specs.Watching.{watch_at}
use Rattle.lgx_audit.proofs.OneWatch.{step_watched, none_watched}
use Rattle.lgx_audit.proofs.watch.watch_event.Goals as goal

pub returns-in-Some : goal.returns-in-Some
returns-in-Some c cs ns last t h given within =
    let m = c.requires.many in
    let w = c.requires.watches in
    let l = h.many in
    c.watch_step.ensures t within
    ∙ step_watched c.args.table.now c.args.e.now cs ns last (omega arith) (sym c.is_for_all.ensures ∙ c.if-is_for_all.false) t c.in-Some.u c.stays-stay.result (watch_at c.args.watches.now t) (omega arith) (sym c.stepping.ensures ∙ c.in-Some.is) (c.stays-stay.ensures cs h)

pub returns-in_default : goal.returns-in_default
returns-in_default c cs ns last t h given within =
    let m = c.requires.many in
    let w = c.requires.watches in
    let l = h.many in
    none_watched c.args.table.now c.args.e.now cs ns last (omega arith) (sym c.is_for_all.ensures ∙ c.if-is_for_all.false) t (watch_at c.args.watches.now t) (omega arith) (sym c.stepping.ensures ∙ c.in_default.is)
