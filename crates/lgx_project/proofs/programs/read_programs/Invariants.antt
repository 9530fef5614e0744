use Rattle.std.proofs.Common.{◌≡◌, ◌++◌, drop}
use Rattle.spec_project.specs.Faults.{first_from, first_of}
use Rattle.lgx_project.specs.Programs.{program_fault_in, programs_from}
use Rattle.lgx_project.proofs.programs.read_programs.Given as goal

abbrev pub invariant-loop-i : goal.invariant-loop-i
invariant-loop-i l = record {
  goes : first_from (program_fault_in l.tags.declarations l.tasks) l.i (drop l.i l.programs) ≡ first_of (program_fault_in l.tags.declarations l.tasks) l.programs;
  made : l.made.items ++ programs_from l.tags.declarations l.tasks l.i (drop l.i l.programs) ≡ programs_from l.tags.declarations l.tasks 0 l.programs;
}
