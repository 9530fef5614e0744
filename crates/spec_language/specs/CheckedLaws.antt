-- What checking keeps: the rungs, forks and legs, each instruction's mnemonic, and its number of operands. And where the
-- operands of checked rungs lie.
use Rattle.std.specs.Prelude.{◌≡◌, ℕ, List, map, length, Ok}
use Rattle.lgx_rung.specs.Tree.{Tree, end, one, fork, Legs, last, leg, Source, SourceIns, instructions}
use Rattle.lgx_rung.specs.declared.op.Op.{Op}
use Rattle.lgx_rung.specs.declared.ins.Ins.{Ins}
use Rattle.spec_language.specs.Declarations.{bytes}
use Rattle.lgx_num.specs.Paths.{OperandInBounds}
use Rattle.std.specs.List.{AllByRecursion as Each}
use Rattle.spec_language.specs.ResolutionLaws.{Sound}
use Rattle.spec_language.specs.Checked.{CheckScope, checked}

-- the tree in which each instruction is what f makes of it
abbrev mutual
  pub tree_map : {A B : Type 0} → (A → B) → Tree A → Tree B
  tree_map f end = end
  tree_map f (one i rest) = one (f i) (tree_map f rest)
  tree_map f (fork t legs rest) = fork (tree_map f t) (legs_map f legs) (tree_map f rest)

  pub legs_map : {A B : Type 0} → (A → B) → Legs A → Legs B
  legs_map f last = last
  legs_map f (leg t legs) = leg (tree_map f t) (legs_map f legs)

-- a mnemonic and a number of operands
abbrev pub source_outline : SourceIns → Op × ℕ
source_outline i = (i.op, length i.texts)

abbrev pub outline : Ins → Op × ℕ
outline i = (i.op, length i.args)

abbrev pub KeepsOutline : Type 0
KeepsOutline = (scope : CheckScope) (rungs : List Source) (made : List (Tree Ins)) → checked scope rungs ≡ Ok made → map (tree_map outline) made ≡ map (tree_map source_outline) rungs

-- every operand of checked rungs lies in the image, for all subscripts in range
abbrev pub OperandsInBounds : ℕ → Tree Ins → Type 0
OperandsInBounds len t = Each (λ i. Each (λ o. OperandInBounds o len) i.args) (instructions t)

abbrev pub CheckedInBounds : Type 0
CheckedInBounds = (scope : CheckScope) (rungs : List Source) (made : List (Tree Ins)) → Sound scope.tags → checked scope rungs ≡ Ok made → Each (OperandsInBounds (bytes scope.tags)) made
