use Rattle.std.proofs.Common.{◌≡◌, take, drop}
use Rattle.spec_project.specs.Faults.{at_place, first_at, first_from}
use Rattle.spec_project.specs.Routines.{rung_fault}
use Rattle.lgx_project.specs.Sources.{sources}
use Rattle.lgx_project.proofs.routines.read_source.Given as goal

abbrev pub invariant-loop-i : goal.invariant-loop-i
invariant-loop-i l = record {
  goes : first_from (λ i x. at_place i (rung_fault x)) l.i (drop l.i l.texts) ≡ first_at rung_fault l.texts;
  made : l.rungs.items ≡ sources (take l.i l.texts);
}
