use Rattle.spec_beside.proofs.Routines.{calls_stand, frames_begin, frames_stay, routines_stand}
use Rattle.spec_beside.proofs.laws.scans_keep_frames.Goals as goal

pub returns-clause-routines : goal.returns-clause-routines
returns-clause-routines c = routines_stand

pub returns-clause-calls : goal.returns-clause-calls
returns-clause-calls c = calls_stand

pub returns-clause-begin : goal.returns-clause-begin
returns-clause-begin c = frames_begin

pub returns-clause-stay : goal.returns-clause-stay
returns-clause-stay c = frames_stay
