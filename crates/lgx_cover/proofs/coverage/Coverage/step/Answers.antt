use Rattle.std.proofs.Common.{◌++◌}
use Rattle.spec_machine.specs.Machine.{run}
use Rattle.lgx_cover.specs.Executions.{begins, executions, occurrences}
use Rattle.lgx_cover.proofs.Stepping.{room_for_one, covers_step}
use Rattle.lgx_cover.proofs.coverage.Coverage.step.Goals as goal

pub count-requires : goal.count-requires
count-requires c =
    let i = c.requires.coverage in
    record { room = (begins i.project i.events, executions i.project i.events, i.covers.tables, room_for_one c.args.self.now i c.requires.room) }

pub returns-clause-covers : goal.returns-clause-covers
returns-clause-covers c = λ project events h.
    let begun = begins project events in
    let all = executions project events in
    let x = c.executing-executed.result in
    let counted = c.in_ok-count.ensures begun all h.tables in
    let noted = c.in_ok-note.ensures begun (all ++ occurrences begun x) counted in
    covers_step c.args.self.now (record { controller = c.cpu-moment.new.self; tables = c.note.new.self }) project events x c.cpu-moment.result h (c.executing-executed.ensures (run project events) h.controller.represents) c.cpu-moment.ensures.runs noted
