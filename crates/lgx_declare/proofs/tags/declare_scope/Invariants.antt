use Rattle.std.proofs.Common.{◌≡◌, ◌+◌, false, length, drop}
use Rattle.spec_project.specs.Tags.{tags_in}
use Rattle.lgx_declare.specs.Declaring.{declaring_fault, tags_from, with_tags}
use Rattle.lgx_declare.proofs.tags.declare_scope.Given as goal

abbrev pub invariant-loop-i : goal.invariant-loop-i
invariant-loop-i l = record {
  goes : declaring_fault l.table.declarations (tags_from l.scope l.i (drop l.i l.tags)) ≡ declaring_fault l.initial.table.declarations (tags_in l.scope l.tags);
  made : with_tags l.table.declarations (tags_from l.scope l.i (drop l.i l.tags)) ≡ with_tags l.initial.table.declarations (tags_in l.scope l.tags);
  unsealed : l.table.sealed ≡ false;
  types : l.table.declarations.types ≡ l.initial.table.declarations.types;
  programs : l.table.declarations.programs ≡ l.initial.table.declarations.programs;
  many : length l.table.declarations.entries ≡ length l.initial.table.declarations.entries + l.i;
}
