-- The instructions in a program's code are those of its rungs.
use Rattle.std.specs.Prelude.{flat_map}
use Rattle.std.proofs.Common.{◌≡◌, ℕ, List, [], ◌∷◌, ◌++◌, refl, ap, ◌∙◌}
use Rattle.lgx_rung.specs.Tree.{instructions}
use Rattle.lgx_rung.specs.declared.ins.Ins.{Ins}
use Rattle.spec_scan.specs.Position.{ProgramRungs, routine_rungs}
use Rattle.spec_scan.specs.Prescan.{reached, reached_instructions}
use Rattle.lgx_prog.specs.Executes.{executes}
use Rattle.lgx_prog.specs.FlatProgram.{Program, IsFlatProgram, routine_at}
use Rattle.lgx_prog.proofs.Executes.{executes_flat}

abbrev pub code_instructions : Program → ℕ → List Ins
code_instructions flat n = executes (routine_at flat n).code

routine_instructions : (flat : Program) (rungs : ProgramRungs) → IsFlatProgram flat rungs → (n : ℕ) → code_instructions flat n ≡ flat_map instructions (routine_rungs rungs n)
routine_instructions flat rungs is n = ap executes (is.routines n).code ∙ executes_flat (routine_rungs rungs n)

same_parts : {A B : Type 0} (f g : A → List B) → ((x : A) → f x ≡ g x) → (xs : List A) → flat_map f xs ≡ flat_map g xs
same_parts f g same [] = refl
same_parts f g same (x ∷ xs) = ap (λ ys. ys ++ flat_map f xs) (same x) ∙ ap (λ ys. g x ++ ys) (same_parts f g same xs)

pub reached_code : (flat : Program) (rungs : ProgramRungs) → IsFlatProgram flat rungs → flat_map (code_instructions flat) flat.reached ≡ reached_instructions rungs
reached_code flat rungs is =
    ap (flat_map (code_instructions flat)) is.reached
    ∙ same_parts (code_instructions flat) (λ n. flat_map instructions (routine_rungs rungs n)) (routine_instructions flat rungs is) (reached rungs)
