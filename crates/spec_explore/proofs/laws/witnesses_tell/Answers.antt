-- By what may be done next.
use Rattle.spec_explore.proofs.Witnesses.{windows_grow, steps_are_in_time, actions_are_in_time, openings_are_in_time, first_lines_hold, openings_witness, actions_witness, steps_witness, ticks_witness}
use Rattle.spec_explore.proofs.laws.witnesses_tell.Goals as goal

pub returns-clause-windows : goal.returns-clause-windows
returns-clause-windows c = windows_grow

pub returns-clause-in_time : goal.returns-clause-in_time
returns-clause-in_time c = steps_are_in_time

pub returns-clause-made : goal.returns-clause-made
returns-clause-made c = actions_are_in_time

pub returns-clause-at_first : goal.returns-clause-at_first
returns-clause-at_first c = openings_are_in_time

pub returns-clause-lines : goal.returns-clause-lines
returns-clause-lines c = first_lines_hold

pub returns-clause-openings : goal.returns-clause-openings
returns-clause-openings c = openings_witness

pub returns-clause-actions : goal.returns-clause-actions
returns-clause-actions c = actions_witness

pub returns-clause-steps : goal.returns-clause-steps
returns-clause-steps c = steps_witness

pub returns-clause-ticks : goal.returns-clause-ticks
returns-clause-ticks c = ticks_witness
