-- What was recorded before `mode run` and after it.
use Rattle.std.proofs.Common.{arith}
use Rattle.lgx_shared.proofs.Making.{room_to_open, just_opened}
use Rattle.lgx_shared.proofs.Numbers.{enough}
use Rattle.lgx_shared.proofs.script_run.opened.Goals as goal

pub take-requires : goal.take-requires
take-requires c =
    let may = room_to_open c.args.project c.in_ok-recording.recording c.reserve.new.self c.args.room c.in_ok-recording.ensures c.reserve.ensures.unchanged c.requires c.in_ok-reserve.ensures.room in
    record { some = omega arith; room = (let few = may.0 in omega arith); spare = may.1 }

pub returns-clause-records : goal.returns-clause-records
returns-clause-records c =
    just_opened c.args.project c.in_ok-recording.recording c.reserve.new.self c.take.new.self c.in_ok-recording.ensures c.reserve.ensures.unchanged (λ p es h. c.in_ok-take.ensures.records p es h)

pub returns-clause-room : goal.returns-clause-room
returns-clause-room c = enough c.args.room c.reserve.new.self.journal.spare c.take.new.self.journal.spare c.in_ok-reserve.ensures.room c.take.ensures.spare
