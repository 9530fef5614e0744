-- Programs are listed once where they are in the schedule.
use Rattle.std.proofs.Common.{◌≡◌, ℕ, ◌+◌, ◌<◌, take, get_or, List, [], ◌∷◌, ◌++◌, length, map, refl, ap, sym, ◌∙◌}
use Rattle.std.specs.Prelude.{Option, not, ◌==◌, count_by, position}
use Rattle.std.specs.List.{flat_map, range_with_len}
use Rattle.std.proofs.lemmas.List.{append-nil, take_more}
use Rattle.std.proofs.lemmas.List.Concat.{flat_map-append}
use Rattle.spec_project.specs.declared.described.Described.{Described}
use Rattle.spec_project.specs.declared.described.DescribedTask.{DescribedTask}
use Rattle.spec_project.specs.declared.fault.ProjectFault.{ProjectFault}
use Rattle.spec_project.specs.declared.fault.ProjectCode.TheVariants.{P7}
use Rattle.spec_project.specs.Faults.{or_else, at_place, first_from, first_of, here, refused_if}
use Rattle.spec_project.specs.Names.{program_names}
use Rattle.spec_project.specs.Schedules.{task_fault, unscheduled}
use Rattle.lgx_num.specs.Name.{same}
use Rattle.lgx_declare.specs.Listing.{listed, numbers_of, task_fault_among, unlisted}
use Rattle.lgx_json.proofs.Steps.{gathered_more}

-- judged by their places, elements are as many numbers
by_place : {A : Type 0} (judge : ℕ → ℕ → Option ProjectFault) (xs : List A) (k : ℕ) → first_from (λ i x. judge i i) k xs ≡ first_from judge k (range_with_len k (length xs))
by_place judge [] k = refl
by_place judge (x ∷ xs) k = ap (λ o. or_else (judge k k) o) (by_place judge xs (k + 1))

joined_lists : {A : Type 0} (f : A → List ℕ) (xs : List A) → flat_map (λ list. list) (map f xs) ≡ flat_map f xs
joined_lists f [] = refl
joined_lists f (x ∷ xs) = ap (λ ys. f x ++ ys) (joined_lists f xs)

pub first_unlisted : (p : Described) (list : List ℕ) → list ≡ listed (program_names p) p.tasks → first_of (λ i q. unlisted list i i) p.programs ≡ first_of (unscheduled p) (range_with_len 0 (length p.programs))
first_unlisted p list is =
    by_place (unlisted list) p.programs 0
    ∙ ap (λ (ns : List ℕ). first_of (λ i n. at_place i (refused_if (not (count_by (λ m. m == n) ns == 1)) (here P7))) (range_with_len 0 (length p.programs))) (is ∙ sym (joined_lists (λ t. numbers_of (program_names p) t.programs) p.tasks))

pub numbers_more : (programs names : List (List ℕ)) (i : ℕ) (name : List ℕ) → i < length names → name ≡ get_or names i name → numbers_of programs (take (i + 1) names) ≡ numbers_of programs (take i names) ++ numbers_of programs (name ∷ [])
numbers_more programs names i name lt is = gathered_more (λ name. position (λ n. same n name) programs) names i name lt is

pub lists_fault : (p : Described) (names : List (List ℕ)) → names ≡ program_names p → first_of (λ i t. at_place i (task_fault_among names p.tasks i t)) p.tasks ≡ first_of (task_fault p) p.tasks
lists_fault p names e = ap (λ (ns : List (List ℕ)). first_of (λ i t. at_place i (task_fault_among ns p.tasks i t)) p.tasks) e

pub listed_more : (programs : List (List ℕ)) (tasks : List DescribedTask) (i : ℕ) (task : DescribedTask) → i < length tasks → task ≡ get_or tasks i task → listed programs (take (i + 1) tasks) ≡ listed programs (take i tasks) ++ numbers_of programs task.programs
listed_more programs tasks i task lt is =
    ap (listed programs) (take_more tasks i task lt)
    ∙ flat_map-append (λ t. numbers_of programs t.programs) (take i tasks) (get_or tasks i task ∷ [])
    ∙ ap (λ (t : DescribedTask). listed programs (take i tasks) ++ (numbers_of programs t.programs ++ [])) (sym is)
    ∙ ap (λ (ns : List ℕ). listed programs (take i tasks) ++ ns) (append-nil (numbers_of programs task.programs))
