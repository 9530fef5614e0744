use Rattle.std.proofs.Common.{[]}
use Rattle.lgx_live.proofs.Talking.{talk_begins, talk_stops}
use Rattle.lgx_live.proofs.session.talk.Goals as goal

pub returns-in-Err : goal.returns-in-Err
returns-in-Err g c = λ project h. talk_stops project _ _ [] (talk_begins project _ c.requires.written)
