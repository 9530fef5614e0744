use Rattle.std.proofs.Common.{◌≡◌, length, map, take, drop}
use Rattle.std.specs.List.{AllByRecursion as Each}
use Rattle.serde_json.specs.View.{view}
use Rattle.spec_project.specs.Faults.{at_place, first_from, first_at}
use Rattle.lgx_json.proofs.list.read_elements.Given as goal

abbrev pub invariant-loop-i : goal.invariant-loop-i
invariant-loop-i g l = record {
  goes : first_from (λ i x. at_place i (g.R.Reader.judge l.reader x)) l.i (map view (drop l.i l.values)) ≡ first_at (g.R.Reader.judge l.reader) (map view l.values);
  made : l.made.items ≡ map (g.R.Reader.describes l.reader) (map view (take l.i l.values));
  each : Each (g.R.Reader.keeps l.reader) l.made.items;
  many : length l.made.items ≡ l.i;
}
