-- Rungs that are checked to the same wherever they stand.
use Rattle.std.specs.Prelude.{◌≡◌, ℕ, ◌+◌, ◌≤◌, Bool, true, false, not, List, length, Ok}
use Rattle.std.specs.List.{list_all}
use Rattle.spec_base.specs.declared.limits.TheConstants.{MAX_ROUTINE_INSTRUCTIONS}
use Rattle.lgx_rung.specs.Tree.{Tree, Source, instructions}
use Rattle.lgx_rung.specs.declared.op.Op.{Op}
use Rattle.lgx_rung.specs.declared.op.Op.TheVariants.{Jmp, Lbl, Sbr}
use Rattle.lgx_rung.specs.declared.ins.Ins.{Ins}
use Rattle.spec_language.specs.Checked.{CheckScope, Label, instruction_of, checked_tree}
use Rattle.lgx_check.specs.Spots.{start_of}

-- LBL and JMP are checked against the routine's labels, and SBR by where it stands
abbrev pub looks_around : Op → Bool
looks_around Lbl = true
looks_around Jmp = true
looks_around Sbr = true
looks_around _ = false

-- what the rung is checked to depends on its own text and the scope alone
abbrev pub is_plain : Source → Bool
is_plain rung = list_all (λ i. not (looks_around i.op)) (instructions rung)

-- a rung that is checked to `made` against this scope, whatever labels there are, wherever the routine has room for it
pub record IsKnown (scope : CheckScope) (rung : Source) (made : Tree Ins) : Type 0 where
  pub anywhere : (ls : List Label) (number before : ℕ) → before + length (instructions rung) ≤ MAX_ROUTINE_INSTRUCTIONS
      → checked_tree (instruction_of scope ls) (start_of number before) rung ≡ Ok made
