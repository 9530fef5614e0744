-- How far the check of a routine has come: first the labels of its rungs are added, and then its rungs are checked one by one.
use Rattle.std.specs.Prelude.{◌≡◌, ℕ, ◌+◌, List, ◌++◌, length, take, sum_by, filter_map, Result, Ok}
use Rattle.std.specs.List.{enumerate_from}
use Rattle.lgx_rung.specs.Tree.{Tree, Source, instructions}
use Rattle.lgx_rung.specs.declared.fault.CheckFault.{CheckFault}
use Rattle.lgx_rung.specs.declared.ins.Ins.{Ins}
use Rattle.spec_language.specs.Checked.{CheckScope, Label, label_at, labels, instruction_of, checked_tree, checked_from}
use Rattle.lgx_check.specs.Spots.{start_of}

-- what rungs are checked against, the labels that were added, and how many instructions the checked rungs have
pub record Progress : Type 0 where
  pub scope : CheckScope
  pub labels : List Label
  pub before : ℕ

-- with the labels of the rung of this number
abbrev pub with_labels : ℕ → Source → Progress → Progress
with_labels number rung p = record p { labels = p.labels ++ filter_map (label_at number) (enumerate_from 0 (instructions rung)) }

-- what the rung of this number is checked to now
abbrev pub checked_now : ℕ → Source → Progress → Result (Tree Ins) CheckFault
checked_now number rung p = checked_tree (instruction_of p.scope p.labels) (start_of number p.before) rung

-- after a rung of this many instructions
abbrev pub after_rung : ℕ → Progress → Progress
after_rung count p = record p { before = p.before + count }

-- no rung is checked yet, and the labels are those of the first n rungs
pub record HasLabels (scope : CheckScope) (rungs : List Source) (n : ℕ) (p : Progress) : Type 0 where
  pub same_scope : p.scope ≡ scope
  pub first_labels : p.labels ≡ labels (take n rungs)
  pub at_start : p.before ≡ 0

-- the first n rungs are checked to `made`, against the labels of all
pub record Checks (scope : CheckScope) (rungs : List Source) (n : ℕ) (made : List (Tree Ins)) (p : Progress) : Type 0 where
  pub same_scope : p.scope ≡ scope
  pub all_labels : p.labels ≡ labels rungs
  pub counted : p.before ≡ sum_by (λ r. length (instructions r)) (take n rungs)
  pub first_checked : checked_from (instruction_of scope (labels rungs)) 0 0 (take n rungs) ≡ Ok made
