use Rattle.std.proofs.Common.{drop}
use Rattle.lgx_link.proofs.UnderWay.{IsUnderWay}
use Rattle.lgx_link.proofs.whole.link_text.Given as goal

abbrev pub invariant-loop-step : goal.invariant-loop-step
invariant-loop-step l = IsUnderWay l.running l.text.items l.fn.a l.fn.b l.script (drop l.step-index l.step-items)
