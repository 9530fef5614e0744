-- A rung's elements as a tree.
use Rattle.std.specs.Prelude.{List, [], ◌∷◌}
use Rattle.lgx_rung.specs.declared.rung.Element.{Element}
use Rattle.lgx_rung.specs.declared.rung.Element.TheVariants.{Ins, Fork}
use Rattle.lgx_rung.specs.Tree.{end, one, fork_of, Source}

abbrev pub tree_of : List Element → Source
tree_of [] = end
tree_of (Ins op texts ∷ elements) = one (record { op = op; texts = texts }) (tree_of elements)
tree_of (Fork legs ∷ elements) = fork_of legs (tree_of elements)
