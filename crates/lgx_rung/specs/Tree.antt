-- Rungs as trees: what follows an instruction or a fork is the rest of its leg. A fork has a first leg and others.
use Rattle.std.specs.Prelude.{ℕ, ◌+◌, max, List, [], ◌∷◌, ◌++◌}
use Rattle.lgx_rung.specs.declared.op.Op.{Op}

mutual
  pub data Tree (A : Type 0) : Type 0 where
    end : Tree A
    one : A → Tree A → Tree A
    fork : Tree A → Legs A → Tree A → Tree A

  pub data Legs (A : Type 0) : Type 0 where
    last : Legs A
    leg : Tree A → Legs A → Legs A

-- the instructions in the order of the text
abbrev mutual
  pub instructions : {A : Type 0} → Tree A → List A
  instructions end = []
  instructions (one i rest) = i ∷ instructions rest
  instructions (fork t legs rest) = instructions t ++ (leg_instructions legs ++ instructions rest)

  pub leg_instructions : {A : Type 0} → Legs A → List A
  leg_instructions last = []
  leg_instructions (leg t legs) = instructions t ++ leg_instructions legs

-- how many forks are nested in one another at most
abbrev mutual
  pub depth : {A : Type 0} → Tree A → ℕ
  depth end = 0
  depth (one i rest) = depth rest
  depth (fork t legs rest) = max (max (depth t) (leg_depth legs) + 1) (depth rest)

  pub leg_depth : {A : Type 0} → Legs A → ℕ
  leg_depth last = 0
  leg_depth (leg t legs) = max (depth t) (leg_depth legs)

-- a leg, and elements after it
abbrev pub append : {A : Type 0} → Tree A → Tree A → Tree A
append end u = u
append (one i rest) u = one i (append rest u)
append (fork t legs rest) u = fork t legs (append rest u)

abbrev pub legs_of : {A : Type 0} → List (Tree A) → Legs A
legs_of [] = last
legs_of (t ∷ ts) = leg t (legs_of ts)

-- a fork of these legs, and the rest of the leg that it is in; there is at least one, and none count as an empty one
abbrev pub fork_of : {A : Type 0} → List (Tree A) → Tree A → Tree A
fork_of [] rest = fork end last rest
fork_of (t ∷ ts) rest = fork t (legs_of ts) rest

-- an instruction of source text: its mnemonic, and its operands as they were written
pub record SourceIns : Type 0 where
  pub op : Op
  pub texts : List (List ℕ)

-- a rung of source text
abbrev pub Source : Type 0
Source = Tree SourceIns
