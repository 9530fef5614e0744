-- Each change keeps a task at a program of its list, and every program is in one list, once.
use Rattle.spec_reach.proofs.Once.{lists_are_apart, programs_are_scanned_once}
use Rattle.spec_reach.proofs.Programs.{tasks_are_at_programs}
use Rattle.spec_reach.proofs.laws.tasks_are_at_programs.Goals as goal

pub returns-clause-programs : goal.returns-clause-programs
returns-clause-programs c = tasks_are_at_programs

pub returns-clause-lists : goal.returns-clause-lists
returns-clause-lists c = lists_are_apart

pub returns-clause-scans : goal.returns-clause-scans
returns-clause-scans c = programs_are_scanned_once
