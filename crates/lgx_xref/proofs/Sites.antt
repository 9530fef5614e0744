-- The instructions of a program by their places.
use Rattle.std.proofs.Common.{◌≡◌, ℕ, ◌+◌, ◌<◌, ◌≤◌, List, [], ◌∷◌, ◌++◌, length, map, refl, ap, ◌∙◌, arith}
use Rattle.std.specs.Prelude.{flat_map}
use Rattle.std.specs.List.{AllByRecursion as Each, enumerate_from}
use Rattle.std.proofs.lemmas.List.{map-append}
use Rattle.lgx_rung.specs.Tree.{Tree, instructions}
use Rattle.lgx_rung.specs.declared.ins.Ins.{Ins}
use Rattle.spec_base.proofs.Lists.{each_append}
use Rattle.spec_machine.specs.Project.{ProgramText, RoutineText}
use Rattle.spec_uses.specs.Uses.{program_instructions, site, sites_of_program, sites_of_routine, sites_of_rung}

-- ---- the instructions are those of the rungs

numbered_instructions : (g r u n : ℕ) (is : List Ins) → map (λ s. s.ins) (map (site g r u) (enumerate_from n is)) ≡ is
numbered_instructions g r u n [] = refl
numbered_instructions g r u n (i ∷ is) = ap (λ js. i ∷ js) (numbered_instructions g r u (n + 1) is)

rungs_instructions : (g r n : ℕ) (rungs : List (Tree Ins)) → map (λ s. s.ins) (flat_map (sites_of_rung g r) (enumerate_from n rungs)) ≡ flat_map instructions rungs
rungs_instructions g r n [] = refl
rungs_instructions g r n (t ∷ ts) =
    map-append (λ s. s.ins) (sites_of_rung g r (n, t)) (flat_map (sites_of_rung g r) (enumerate_from (n + 1) ts))
    ∙ ap (λ is. is ++ map (λ s. s.ins) (flat_map (sites_of_rung g r) (enumerate_from (n + 1) ts))) (numbered_instructions g r n 0 (instructions t))
    ∙ ap (λ is. instructions t ++ is) (rungs_instructions g r (n + 1) ts)

routines_instructions : (g n : ℕ) (routines : List RoutineText)
    → map (λ s. s.ins) (flat_map (sites_of_routine g) (enumerate_from n routines)) ≡ flat_map (λ r. flat_map instructions r.checked) routines
routines_instructions g n [] = refl
routines_instructions g n (r ∷ rs) =
    map-append (λ s. s.ins) (sites_of_routine g (n, r)) (flat_map (sites_of_routine g) (enumerate_from (n + 1) rs))
    ∙ ap (λ is. is ++ map (λ s. s.ins) (flat_map (sites_of_routine g) (enumerate_from (n + 1) rs))) (rungs_instructions g n 0 r.checked)
    ∙ ap (λ is. flat_map instructions r.checked ++ is) (routines_instructions g (n + 1) rs)

pub sites_instructions : (g : ℕ) (program : ProgramText) → map (λ s. s.ins) (sites_of_program (g, program)) ≡ program_instructions program
sites_instructions g program = routines_instructions g 0 program.routines

-- ---- each stands in one of the program's routines

module _ (P : ℕ → Type 0) where
  numbered_in : (g r u n : ℕ) (is : List Ins) → P r → Each (λ s. P s.at.routine) (map (site g r u) (enumerate_from n is))
  numbered_in g r u n [] p = tt
  numbered_in g r u n (i ∷ is) p = (p, numbered_in g r u (n + 1) is p)

  rungs_in : (g r n : ℕ) (rungs : List (Tree Ins)) → P r → Each (λ s. P s.at.routine) (flat_map (sites_of_rung g r) (enumerate_from n rungs))
  rungs_in g r n [] p = tt
  rungs_in g r n (t ∷ ts) p =
      each_append (λ s. P s.at.routine) (sites_of_rung g r (n, t)) (flat_map (sites_of_rung g r) (enumerate_from (n + 1) ts))
      (numbered_in g r n 0 (instructions t) p) (rungs_in g r (n + 1) ts p)

routines_known : (count g n : ℕ) (routines : List RoutineText) → n + length routines ≤ count
    → Each (λ s. s.at.routine < count) (flat_map (sites_of_routine g) (enumerate_from n routines))
routines_known count g n [] few = tt
routines_known count g n (r ∷ rs) few =
    let here : n < count = omega arith in
    let rest : n + 1 + length rs ≤ count = omega arith in
    each_append (λ s. s.at.routine < count) (sites_of_routine g (n, r)) (flat_map (sites_of_routine g) (enumerate_from (n + 1) rs))
    (rungs_in (λ m. m < count) g n 0 r.checked here) (routines_known count g (n + 1) rs rest)

pub sites_known : (g count : ℕ) (program : ProgramText) → length program.routines ≡ count → Each (λ s. s.at.routine < count) (sites_of_program (g, program))
sites_known g count program same = let few : 0 + length program.routines ≤ count = omega arith in routines_known count g 0 program.routines few
