-- The number of a program's main routine.
use Rattle.std.proofs.Common.{◌≡◌, ℕ, ◌+◌, ◌<◌, ◌≤◌, List, true, length, map, drop, get_or, Option, Some, None, ap, sym, ◌∙◌}
use Rattle.std.specs.Prelude.{cond, unwrap_or}
use Rattle.std.specs.List.{position_from}
use Rattle.std.proofs.lemmas.List.{at_drop_all, at_drop_more}
use Rattle.std.proofs.lemmas.Iterator.Adapters.{position_from-zero}
use Rattle.lgx_num.specs.Name.{same}
use Rattle.spec_project.specs.declared.described.DescribedProgram.{DescribedProgram}
use Rattle.spec_project.specs.declared.described.DescribedRoutine.{DescribedRoutine}
use Rattle.spec_project.specs.Names.{routine_names}
use Rattle.spec_project.specs.Routines.{main_of}

-- the first main routine among these, which are from so many on
abbrev pub main_from : DescribedProgram → ℕ → List DescribedRoutine → Option ℕ
main_from q i rs = position_from (λ name. same name q.main) i (map (λ r. r.name) rs)

main_by : (q : DescribedProgram) (o : Option ℕ) → main_from q 0 q.routines ≡ o → main_of q ≡ unwrap_or o 0
main_by q o e = ap (λ (o : Option ℕ). unwrap_or o 0) (position_from-zero (λ name. same name q.main) (routine_names q) ∙ e)

pub main_found : (q : DescribedProgram) (i : ℕ) (rs : List DescribedRoutine) (r : DescribedRoutine) → rs ≡ q.routines → main_from q 0 q.routines ≡ main_from q i (drop i q.routines)
    → i < length rs → r ≡ get_or rs i r → same r.name q.main ≡ true → i ≡ main_of q
main_found q i rs r all goes lt is found =
    let rest = main_from q (i + 1) (drop (i + 1) rs) in
    let here : main_from q i (drop i rs) ≡ Some i =
    at_drop_more (main_from q i) rs i r lt ∙ ap (λ (y : DescribedRoutine). cond (same y.name q.main) (Some i) rest) (sym is) ∙ ap (λ b. cond b (Some i) rest) found in
    sym (main_by q (Some i) (goes ∙ ap (λ (ys : List DescribedRoutine). main_from q i (drop i ys)) (sym all) ∙ here))

pub main_missing : (q : DescribedProgram) (i : ℕ) (rs : List DescribedRoutine) → rs ≡ q.routines → main_from q 0 q.routines ≡ main_from q i (drop i q.routines) → length rs ≤ i → 0 ≡ main_of q
main_missing q i rs all goes le =
    sym (main_by q None (goes ∙ ap (λ (ys : List DescribedRoutine). main_from q i (drop i ys)) (sym all) ∙ at_drop_all (main_from q i) rs i le))
