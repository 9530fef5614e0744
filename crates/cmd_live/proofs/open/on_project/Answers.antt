use Rattle.std.proofs.Common.{Ok, ap}
use Rattle.cmd_live.proofs.Opening.{accepted, refused, stopped}
use Rattle.cmd_live.proofs.open.on_project.Goals as goal

pub returns-in-Ok-Accepted : goal.returns-in-Ok-Accepted
returns-in-Ok-Accepted g c = λ told noted.
    accepted told noted _ _ _ c.args.bytes.now c.in-Ok-Accepted.project (c.in-Ok-Accepted.ensures.accepted c.in-Ok-Accepted.project (ap (λ s. Ok s) c.in-Ok-Accepted.field-0-is)) c.talk_on.ensures

pub returns-in-Ok-Refused : goal.returns-in-Ok-Refused
returns-in-Ok-Refused g c = λ told noted.
    refused told noted _ _ _ c.args.bytes.now c.in-Ok-Refused.line c.as_slice.result.now (c.in-Ok-Refused.ensures.refused c.in-Ok-Refused.line (ap (λ s. Ok s) c.in-Ok-Refused.field-0-is)) c.as_slice.ensures (c.say.ensures told noted)

pub returns-in-Err : goal.returns-in-Err
returns-in-Err g c = λ told noted. stopped told noted _ c.args.bytes.now c.requires
