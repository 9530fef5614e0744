use Rattle.std.proofs.Common.{◌≡◌, length, drop}
use Rattle.std.specs.Prelude.{fold}
use Rattle.spec_language.specs.Declarations.{bytes}
use Rattle.spec_project.specs.Faults.{at_place, first_from, first_at}
use Rattle.spec_project.specs.Places.{initial_fault, with_value}
use Rattle.spec_project.specs.Tags.{declarations}
use Rattle.lgx_places.proofs.places.put_each.Given as goal

abbrev pub invariant-loop-i : goal.invariant-loop-i
invariant-loop-i l = record {
  goes : first_from (λ i x. at_place i (initial_fault l.file x)) l.i (drop l.i l.values) ≡ first_at (initial_fault l.file) l.values;
  put : fold (with_value l.file) l.image.bytes (drop l.i l.values) ≡ fold (with_value l.file) l.initial.image.bytes l.values;
  len : length l.image.bytes ≡ bytes (declarations l.file);
}
