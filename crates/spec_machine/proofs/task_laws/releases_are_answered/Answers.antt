use Rattle.spec_machine.proofs.ReleasesGo.{releases_are_of_the_table, inhibited_changes_nothing, overlaps_tell_faults_alone}
use Rattle.spec_machine.proofs.task_laws.releases_are_answered.Goals as goal

pub returns-clause-table : goal.returns-clause-table
returns-clause-table c = releases_are_of_the_table

pub returns-clause-inhibited : goal.returns-clause-inhibited
returns-clause-inhibited c = inhibited_changes_nothing

pub returns-clause-overlap : goal.returns-clause-overlap
returns-clause-overlap c = overlaps_tell_faults_alone
