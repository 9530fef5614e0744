use Rattle.lgx_steps.specs.PartsView.{view_of}
use Rattle.lgx_steps.proofs.AcceptGives.{can-number, few-names, has-checked, accepted, refused-as}
use Rattle.lgx_steps.proofs.parts.ControllerParts.accept.Goals as goal

pub accept-done-requires : goal.accept-done-requires
accept-done-requires c =
    let n = c.requires.events in
    let v = view_of c.args.self.now in
    let s = c.requires.state in
    let h = c.requires.represents in
    record {
      numbers = can-number n v s h c.requires.room;
      sealed = h.sealed;
      few_tasks = few-names n v s h c.as_slice.result.now c.as_slice.ensures;
      checked = has-checked n v s h c.as_slice.result.now c.as_slice.ensures;
    }

pub returns-in-Ok-clause-gives : goal.returns-in-Ok-clause-gives
returns-in-Ok-clause-gives c = λ n s h.
    accepted n (view_of c.args.self.now) s h c.args.lane c.args.command.now c.as_slice.result.now c.accept-done.new.self c.in-Ok.number c.replied.result c.as_slice.ensures c.replied.ensures c.in-Ok.ensures.0 c.in-Ok.ensures.1

pub returns-in-Err-clause-gives : goal.returns-in-Err-clause-gives
returns-in-Err-clause-gives c = λ n s h.
    refused-as n (view_of c.args.self.now) s h c.args.lane c.args.command.now c.as_slice.result.now c.accept-done.new.self c.in-Err.error c.refusal.result c.as_slice.ensures c.refusal.ensures c.in-Err.ensures
