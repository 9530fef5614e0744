-- An open fork is told apart by its parts.
use Rattle.std.specs.Prelude.{List, refl}
use Rattle.std.specs.Coded.{Coded, code_by, coded×, coded_list}
use Rattle.lgx_rung.specs.Coding.{coded_tree}
use Rattle.lgx_rung.specs.Tokens.{Fork}
use Rattle.lgx_rung.specs.Tree.{SourceIns, Source}

abbrev pub fork_code : Coded SourceIns → Coded Fork
fork_code c =
    code_by (Source × List Source) (coded× (coded_tree c) (coded_list (coded_tree c))) (λ f. (f.before, f.legs)) (λ p. record { before = p.0; legs = p.1 }) (λ _. refl)
