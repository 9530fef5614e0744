-- How many routines and rungs there are.
use Rattle.std.proofs.Common.{◌≡◌, ℕ, ◌+◌, ◌*◌, ◌^◌, ◌<◌, ◌≤◌, List, [], ◌∷◌, map, length, nat_lt, nat_le, IsTrue, refl, sym, ap, ◌∙◌, arith}
use Rattle.std.specs.Prelude.{sum_by}
use Rattle.std.specs.List.{list_all}
use Rattle.std.proofs.lemmas.Bool.{and_parts, leb-true}
use Rattle.std.proofs.lemmas.List.Sums.{sum_by-cons}
use Rattle.std.proofs.lemmas.List.{length-map}
use Rattle.spec_machine.specs.declared.limits.TheConstants.{MAX_PROGRAMS, MAX_ROUTINES, MAX_RUNGS}
use Rattle.spec_machine.specs.Project as machine
use Rattle.spec_machine.specs.ValidProject.{IsValidProject, is_within, is_small_program}
use Rattle.lgx_edit.specs.declared.texts.ProgramText.{ProgramText}
use Rattle.lgx_edit.specs.Texts.{program_of, routine_of}
use Rattle.cmd_project.specs.CheckPlan.{routine_count, rungs_in, rung_count}

sum_by-map : {A B : Type 0} (g : B → ℕ) (f : A → B) (xs : List A) → sum_by g (map f xs) ≡ sum_by (λ x. g (f x)) xs
sum_by-map g f [] = refl
sum_by-map g f (x ∷ xs) =
    sum_by-cons g (f x) (map f xs) ∙ ap (λ n. g (f x) + n) (sum_by-map g f xs) ∙ sym (sum_by-cons (λ y. g (f y)) x xs)

sum_by-same : {A : Type 0} (f g : A → ℕ) → ((x : A) → f x ≡ g x) → (xs : List A) → sum_by f xs ≡ sum_by g xs
sum_by-same f g same [] = refl
sum_by-same f g same (x ∷ xs) =
    sum_by-cons f x xs ∙ ap (λ n. n + sum_by f xs) (same x) ∙ ap (λ n. g x + n) (sum_by-same f g same xs) ∙ sym (sum_by-cons g x xs)

pub routine_count_is : (ps : List ProgramText) → routine_count (map program_of ps) ≡ sum_by (λ p. length p.routines) ps
routine_count_is ps =
    sum_by-map (λ (q : machine.ProgramText). length q.routines) program_of ps
    ∙ sum_by-same (λ (p : ProgramText). length (map routine_of p.routines)) (λ p. length p.routines) (λ p. length-map p.routines routine_of) ps

pub rung_count_is : (ps : List ProgramText) → rung_count (map program_of ps) ≡ sum_by (λ p. sum_by (λ r. length r.source) p.routines) ps
rung_count_is ps =
    sum_by-map (λ (q : machine.ProgramText). rungs_in q.routines) program_of ps
    ∙ sum_by-same (λ (p : ProgramText). rungs_in (map routine_of p.routines)) (λ p. sum_by (λ r. length r.source) p.routines) (λ p. sum_by-map (λ (r : machine.RoutineText). length r.source) routine_of p.routines) ps

-- ---- limits

few_rungs : (rs : List machine.RoutineText) → IsTrue (list_all (λ r. nat_le (length r.source) MAX_RUNGS) rs) → rungs_in rs ≤ MAX_RUNGS * length rs
few_rungs [] small = omega arith
few_rungs (r ∷ rs) small =
    let parts = and_parts (nat_le (length r.source) MAX_RUNGS) (list_all (λ r. nat_le (length r.source) MAX_RUNGS) rs) small in
    let here : length r.source ≤ MAX_RUNGS = leb-true (length r.source) MAX_RUNGS parts.0 in
    let rest : rungs_in rs ≤ MAX_RUNGS * length rs = few_rungs rs parts.1 in
    let all : rungs_in (r ∷ rs) ≡ length r.source + rungs_in rs = sum_by-cons (λ (r : machine.RoutineText). length r.source) r rs in
    omega arith

-- the routines and rungs of a small program are few
small_parts : (q : machine.ProgramText) → IsTrue (is_small_program q) → (length q.routines ≤ MAX_ROUTINES) × (rungs_in q.routines ≤ MAX_RUNGS * MAX_ROUTINES)
small_parts q small =
    let parts = and_parts (is_within (length q.routines) MAX_ROUTINES) (list_all (λ r. nat_le (length r.source) MAX_RUNGS) q.routines) small in
    let within = and_parts (nat_lt 0 (length q.routines)) (nat_le (length q.routines) MAX_ROUTINES) parts.0 in
    let routines : length q.routines ≤ MAX_ROUTINES = leb-true (length q.routines) MAX_ROUTINES within.1 in
    let rungs : rungs_in q.routines ≤ MAX_RUNGS * length q.routines = few_rungs q.routines parts.1 in
    (routines, omega arith)

few_parts : (ps : List machine.ProgramText) → IsTrue (list_all is_small_program ps) → (routine_count ps ≤ MAX_ROUTINES * length ps) × (rung_count ps ≤ MAX_RUNGS * MAX_ROUTINES * length ps)
few_parts [] small = (omega arith, omega arith)
few_parts (q ∷ qs) small =
    let parts = and_parts (is_small_program q) (list_all is_small_program qs) small in
    let here = small_parts q parts.0 in
    let routines : length q.routines ≤ MAX_ROUTINES = here.0 in
    let rungs : rungs_in q.routines ≤ MAX_RUNGS * MAX_ROUTINES = here.1 in
    let rest = few_parts qs parts.1 in
    let more_routines : routine_count qs ≤ MAX_ROUTINES * length qs = rest.0 in
    let more_rungs : rung_count qs ≤ MAX_RUNGS * MAX_ROUTINES * length qs = rest.1 in
    let all_routines : routine_count (q ∷ qs) ≡ length q.routines + routine_count qs = sum_by-cons (λ (q : machine.ProgramText). length q.routines) q qs in
    let all_rungs : rung_count (q ∷ qs) ≡ rungs_in q.routines + rung_count qs = sum_by-cons (λ (q : machine.ProgramText). rungs_in q.routines) q qs in
    (omega arith, omega arith)

-- a valid project's routines and rungs can be counted
pub can_be_counted : (p : machine.Project) → IsValidProject p → (routine_count p.programs < 2 ^ 64) × (rung_count p.programs < 2 ^ 64)
can_be_counted p valid =
    let few = few_parts p.programs valid.limits.each_program in
    let routines : routine_count p.programs ≤ MAX_ROUTINES * length p.programs = few.0 in
    let rungs : rung_count p.programs ≤ MAX_RUNGS * MAX_ROUTINES * length p.programs = few.1 in
    let within = and_parts (nat_lt 0 (length p.programs)) (nat_le (length p.programs) MAX_PROGRAMS) valid.limits.programs in
    let programs : length p.programs ≤ MAX_PROGRAMS = leb-true (length p.programs) MAX_PROGRAMS within.1 in
    (omega arith, omega arith)
