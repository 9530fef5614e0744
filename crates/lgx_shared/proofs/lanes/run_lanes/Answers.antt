-- The run of a script may cross threads.
use denote.Param.Send.{sendable}
use Rattle.std.proofs.Crossing.{crosses}
use Rattle.lgx_shared.proofs.Crossing.{named_send}
use Rattle.lgx_shared.proofs.lanes.run_lanes.Goals as goal

pub run_lanes-requires-send-R : goal.run_lanes-requires-send-R
run_lanes-requires-send-R g c κs within =
    let sent = c.type_bounds.send-I in
    search (sendable, crosses, named_send) depth 60 fits 100000
