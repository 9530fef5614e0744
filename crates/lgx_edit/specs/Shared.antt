-- Rungs as books share them: each as it was written and as it runs, and what is worked out of it once.
use Rattle.std.specs.Prelude.{List, map, refl}
use Rattle.std.specs.Coded.{Coded, code_by, coded×}
use Rattle.lgx_rung.specs.declared.ins.Ins.{Ins}
use Rattle.lgx_rung.specs.Tree.{Tree, Source, SourceIns}
use Rattle.lgx_rung.specs.Coding.{coded_tree}
use Rattle.spec_scan.specs.Position.{Rungs}

-- a rung as it was written, and as it runs
pub record RungPair : Type 0 where
  pub source : Source
  pub checked : Tree Ins

abbrev pub sources : List RungPair → List Source
sources rungs = map (λ r. r.source) rungs

abbrev pub checkeds : List RungPair → Rungs
checkeds rungs = map (λ r. r.checked) rungs

-- how such rungs are told apart: each is stored as its fields
abbrev pub pair_code : Coded SourceIns → Coded Ins → Coded RungPair
pair_code c d =
    code_by (Source × Tree Ins) (coded× (coded_tree c) (coded_tree d))
    (λ r. (r.source, r.checked)) (λ p. record { source = p.0; checked = p.1 }) (λ _. refl)
