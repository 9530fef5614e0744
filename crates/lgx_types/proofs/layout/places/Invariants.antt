use Rattle.std.proofs.Common.{◌≡◌, ◌≤◌, ◌++◌, drop}
use Rattle.spec_base.specs.declared.limits.TheConstants.{MAX_STRUCTURE_BYTES}
use Rattle.lgx_types.specs.Sizing.{end_of}
use Rattle.lgx_types.specs.Tables.{places_from}
use Rattle.lgx_types.proofs.layout.places.Given as goal

abbrev pub invariant-loop-k : goal.invariant-loop-k
invariant-loop-k l = record {
  low : l.at ≤ MAX_STRUCTURE_BYTES;
  placed : l.places.items ++ places_from l.sizes l.at (drop l.k l.types) ≡ places_from l.sizes 0 l.types;
  ends : end_of l.sizes l.at (drop l.k l.types) ≡ end_of l.sizes 0 l.types;
}
