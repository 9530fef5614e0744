-- A RET has its routine's returns, and no other instruction has any.
use Rattle.std.proofs.Common.{ap}
use Rattle.std.proofs.lemmas.Result.{IfOk-weaker}
use Rattle.lgx_xref.proofs.Beside.{beside_none, beside_ret}
use Rattle.lgx_xref.proofs.note.tags_beside.Goals as goal

pub returns-in-Ret : goal.returns-in-Ret
returns-in-Ret c =
    IfOk-weaker c.copied.result _ _
    (λ tags same spans program all.
    beside_ret spans program c.args.returns.now c.args.site.now c.at-routine.result.routine c.ins.result.now c.index-returns-routine.result tags
    c.ins.ensures c.in-Ret.is (ap (λ a. a.routine) c.at-routine.ensures) c.requires c.index-returns-routine.is same all)
    c.copied.ensures

pub returns-in_default : goal.returns-in_default
returns-in_default c spans program all =
    beside_none spans program c.args.site.now c.ins.result.now c.new.result c.ins.ensures c.in_default.not-Ret c.new.ensures
