use Rattle.std.proofs.Common.{◌≡◌, map, take, drop}
use Rattle.std.specs.List.{filter_map}
use Rattle.spec_project.specs.Faults.{at_place, first_from, first_at}
use Rattle.spec_project.specs.Places.{place_fault, watch_of as named_watch}
use Rattle.lgx_edit.specs.Plants.{watch_of}
use Rattle.lgx_places.proofs.places.watches_of.Given as goal

abbrev pub invariant-loop-i : goal.invariant-loop-i
invariant-loop-i l = record {
  goes : first_from (λ i x. at_place i (place_fault l.file x)) l.i (drop l.i l.texts) ≡ first_at (place_fault l.file) l.texts;
  made : map watch_of l.made.items ≡ filter_map (named_watch l.file) (take l.i l.texts);
}
