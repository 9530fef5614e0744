-- The laws along a run.
use Rattle.spec_legal.proofs.Priority.{runs_keep_priority, runs_keep_regions}
use Rattle.spec_legal.proofs.Versions.{runs_keep_versions}
use Rattle.spec_legal.proofs.Turns.{runs_keep_turns}
use Rattle.spec_legal.proofs.Ways.{runs_give_way}
use Rattle.spec_legal.proofs.laws.runs_are_legal.Goals as goal

pub returns-clause-priority : goal.returns-clause-priority
returns-clause-priority c = runs_keep_priority

pub returns-clause-regions : goal.returns-clause-regions
returns-clause-regions c = runs_keep_regions

pub returns-clause-versions : goal.returns-clause-versions
returns-clause-versions c = runs_keep_versions

pub returns-clause-turns : goal.returns-clause-turns
returns-clause-turns c = runs_keep_turns

pub returns-clause-ticks : goal.returns-clause-ticks
returns-clause-ticks c = runs_give_way

pub returns-clause-legal : goal.returns-clause-legal
returns-clause-legal c p journal valid = record { priority = runs_keep_priority p journal valid; turns = runs_keep_turns p journal valid; ticks = runs_give_way p journal valid; versions = runs_keep_versions p journal valid }
