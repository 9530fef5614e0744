use Rattle.std.proofs.Common.{[]}
use Rattle.lgx_live.proofs.Talking.{talk_begins, talk_stops}
use Rattle.cmd_live.proofs.open.talk_on.Goals as goal

pub talk-requires-clause-some : goal.talk-requires-clause-some
talk-requires-clause-some g c = (c.args.project, c.in-Ok.ensures)

pub returns-in-Ok : goal.returns-in-Ok
returns-in-Ok g c = c.talk.ensures c.args.project c.in-Ok.ensures

pub returns-in-Err : goal.returns-in-Err
returns-in-Err g c = talk_stops c.args.project _ _ [] (talk_begins c.args.project _ c.requires)
