-- Both parts.
use Rattle.spec_schedule.proofs.TurnsDecided.{turns_decided}
use Rattle.spec_schedule.proofs.WaysDecided.{ways_decided}
use Rattle.spec_schedule.proofs.turn_laws.turns_are_decided.Goals as goal

pub returns-clause-between_steps : goal.returns-clause-between_steps
returns-clause-between_steps c = turns_decided

pub returns-clause-over_ticks : goal.returns-clause-over_ticks
returns-clause-over_ticks c = ways_decided
