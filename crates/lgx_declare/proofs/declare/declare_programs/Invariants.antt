use Rattle.std.proofs.Common.{◌≡◌, ◌≤◌, ◌+◌, ◌*◌, false, length, drop}
use Rattle.spec_machine.specs.declared.limits.TheConstants.{MAX_SCOPE_TAGS}
use Rattle.lgx_declare.specs.Declaring.{declaring_fault, program_tags_from, with_tags}
use Rattle.lgx_declare.proofs.declare.declare_programs.Given as goal

abbrev pub invariant-loop-i : goal.invariant-loop-i
invariant-loop-i l = record {
  goes : declaring_fault l.table.declarations (program_tags_from l.i (drop l.i l.programs)) ≡ declaring_fault l.initial.table.declarations (program_tags_from 0 l.programs);
  made : with_tags l.table.declarations (program_tags_from l.i (drop l.i l.programs)) ≡ with_tags l.initial.table.declarations (program_tags_from 0 l.programs);
  unsealed : l.table.sealed ≡ false;
  types : l.table.declarations.types ≡ l.initial.table.declarations.types;
  programs : l.table.declarations.programs ≡ l.initial.table.declarations.programs;
  many : length l.table.declarations.entries ≤ MAX_SCOPE_TAGS + l.i * MAX_SCOPE_TAGS;
}
