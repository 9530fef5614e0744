-- Each of the programs has its main routine.
use Rattle.std.proofs.Common.{◌≡◌, ◌<◌, true, List, [], ◌∷◌, length, All, arith}
use Rattle.std.specs.Prelude.{nat_lt}
use Rattle.std.specs.List.{AllByRecursion as Each}
use Rattle.std.proofs.lemmas.Bool.{and_parts}
use Rattle.std.proofs.lemmas.Bool.Decides.{nat_tests}
use Rattle.std.proofs.lemmas.List.Elements.{All-from_recursion}
use Rattle.lgx_edit.specs.declared.texts.ProgramText.{ProgramText}
use Rattle.test_edits.specs.Mains.{has_main, have_mains}

each_main : (programs : List ProgramText) → have_mains programs ≡ true → Each (λ p. p.main < length p.routines) programs
each_main [] h = tt
each_main (p ∷ ps) h =
    let parts = and_parts (has_main p) (have_mains ps) h in
    let test : nat_lt p.main (length p.routines) ≡ true = parts.0 in
    let there : p.main < length p.routines = grind (arith, nat_tests) in
    (there, each_main ps parts.1)

pub all_mains : (programs : List ProgramText) → have_mains programs ≡ true → All (λ p. p.main < length p.routines) programs
all_mains programs h = All-from_recursion (λ p. p.main < length p.routines) programs (each_main programs h)
