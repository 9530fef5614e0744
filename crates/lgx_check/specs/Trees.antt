-- A checked element as a tree.
use Rattle.std.specs.Prelude.{[], ◌∷◌}
use Rattle.lgx_rung.specs.Tree.{Tree}
use Rattle.lgx_rung.specs.declared.ins.Ins.{Ins}
use Rattle.lgx_prog.specs.Nodes.{tree_of}
use Rattle.lgx_prog.specs.declared.rung.Node.{Node}

abbrev pub node_tree : Node → Tree Ins
node_tree n = tree_of (n ∷ [])
