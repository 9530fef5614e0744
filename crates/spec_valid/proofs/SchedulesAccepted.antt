-- Tasks and their lists of which none is refused.
use Rattle.std.specs.Prelude.{◌≡◌, ℕ, suc, ◌+◌, ◌<◌, ◌≤◌, nat_lt, Bool, true, false, cond, ◌&&◌, ◌||◌, List, [], ◌∷◌, ◌++◌, length, map, filter, filter_map, count_by, take, Option, Some, None, is_none, IsTrue, refl}
use Rattle.std.specs.Bool.{beq as agree}
use Rattle.std.specs.List.{AllByRecursion as Each, enumerate_from, list_all, list_any, range_with_len, zip}
use Rattle.std.proofs.Common.{ap, sym, subst, ◌∙◌, arith, length-append}
use Rattle.std.proofs.lemmas.Bool.{and_from, le-leb, lt-ltb}
use Rattle.std.proofs.lemmas.List.{append_assoc, length-map}
use Rattle.std.proofs.lemmas.List.Folds.{list_any-append}
use Rattle.std.proofs.lemmas.List.FromFn.{length-enumerate_from}
use Rattle.std.proofs.lemmas.List.Sums.{length-filter}
use Rattle.std.proofs.Math.Seq.{take-append_seam}
use Rattle.lgx_num.specs.Name.{same}
use Rattle.spec_base.proofs.Lists.{each_map}
use Rattle.spec_language.specs.declared.names.TaskName.{TaskName}
use Rattle.spec_language.proofs.Reaching.{position_below}
use Rattle.spec_machine.specs.ValidProject.{HasTaskLists, at_most_one_continuous, is_event, is_list_of, is_listed_once, is_name_of, is_proper_task}
use Rattle.spec_project.specs.Faults.{first_from}
use Rattle.spec_project.specs.Limits.{IsSmallTask, IsWithinLimits}
use Rattle.spec_project.specs.Names.{program_names}
use Rattle.spec_project.specs.Projects.{project_made}
use Rattle.spec_project.specs.Routines.{program_text, program_texts}
use Rattle.spec_project.specs.Schedules.{is_continuous_task, program_named, schedule, task_fault, tasks_fault, unknown_program, unscheduled}
use Rattle.spec_project.specs.declared.described.Described.{Described}
use Rattle.spec_project.specs.declared.described.DescribedTask.{DescribedTask}
use Rattle.spec_tables.specs.Tasks.{is_continuous}
use Rattle.spec_tables.specs.declared.task.TaskDef.{TaskDef}
use Rattle.spec_valid.proofs.Lists.{all_made}
use Rattle.spec_valid.proofs.Passes.{is_so, neither, none_at, none_of, not_mapped, not_so}

-- ---- what the pass over tasks refuses nothing of

-- every program of the list is there, and it is no second continuous task
pub record IsListed (p : Described) (e : ℕ × DescribedTask) : Type 0 where
  pub known : Each (λ name. unknown_program p name ≡ None) e.1.programs
  pub only : (is_continuous_task e.1 && list_any is_continuous_task (take e.0 p.tasks)) ≡ false

listed_of : (p : Described) (e : ℕ × DescribedTask) → task_fault p e.0 e.1 ≡ None → IsListed p e
listed_of p e h =
    let a = neither _ _ (not_mapped _ _ h) in
    record { known = none_at (unknown_program p) e.1.programs (not_mapped _ _ a.0); only = not_so _ _ a.1 }

once_of : (p : Described) (i : ℕ) (ns : List ℕ) → first_from (unscheduled p) i ns ≡ None
    → IsTrue (list_all (is_listed_once (schedule p)) ns)
once_of p i [] h = refl
once_of p i (n ∷ ns) h =
    let a = neither (unscheduled p i n) (first_from (unscheduled p) (i + 1) ns) h in
    and_from (is_listed_once (schedule p) n) (list_all (is_listed_once (schedule p)) ns) (is_so _ _ (not_mapped _ _ a.0)) (once_of p (i + 1) ns a.1)

pub record AreScheduled (p : Described) : Type 0 where
  pub listed : Each (IsListed p) (enumerate_from 0 p.tasks)
  pub once : IsTrue (list_all (is_listed_once (schedule p)) (range_with_len 0 (length p.programs)))

pub scheduled_of : (p : Described) → tasks_fault p ≡ None → AreScheduled p
unfolding tasks_fault
scheduled_of p h =
    let a = neither _ _ h in
    record {
      listed = each_map (λ e. task_fault p e.0 e.1 ≡ None) (IsListed p) (enumerate_from 0 p.tasks) (listed_of p) (none_of (task_fault p) 0 p.tasks (not_mapped _ _ a.0));
      once = once_of p 0 (range_with_len 0 (length p.programs)) (not_mapped _ _ a.1);
    }

-- ---- lists

known_names : (p : Described) (names : List (List ℕ)) → Each (λ name. unknown_program p name ≡ None) names
    → (length (filter_map (program_named p) names) ≡ length names) × IsTrue (list_all (λ n. nat_lt n (length p.programs)) (filter_map (program_named p) names))
known_names p [] h = (refl, refl)
known_names p (name ∷ names) h = go (program_named p name) refl (not_so _ _ h.0) (known_names p names h.1)
  where
    below : (k : ℕ) → program_named p name ≡ Some k → k < length p.programs
    below k e = omega (arith, position_below (λ n. same n name) (program_names p) k e, length-map p.programs (λ q. q.name))

    go : (o : Option ℕ) → program_named p name ≡ o → is_none o ≡ false
        → (length (filter_map (program_named p) names) ≡ length names) × IsTrue (list_all (λ n. nat_lt n (length p.programs)) (filter_map (program_named p) names))
        → (length (filter_map (program_named p) (name ∷ names)) ≡ suc (length names)) × IsTrue (list_all (λ n. nat_lt n (length p.programs)) (filter_map (program_named p) (name ∷ names)))
    go None e r known = absurd (cc r)
    go (Some k) e r known = rw e (ap suc known.0, and_from (nat_lt k (length p.programs)) _ (lt-ltb k (length p.programs) (below k e)) known.1)

list_of_task : (p : Described) (t : DescribedTask) → IsSmallTask t
    → Each (λ name. unknown_program p name ≡ None) t.programs
    → IsTrue (is_list_of (length p.programs) (filter_map (program_named p) t.programs))
list_of_task p t small h =
    let known = known_names p t.programs h in
    let enough = small.programs.enough in
    and_from (nat_lt 0 (length (filter_map (program_named p) t.programs))) _ (lt-ltb 0 (length (filter_map (program_named p) t.programs)) (omega (arith, known.0))) known.1

lists_from : (p : Described) (i : ℕ) (ts : List DescribedTask) → Each IsSmallTask ts
    → Each (IsListed p) (enumerate_from i ts)
    → IsTrue (list_all (is_list_of (length p.programs)) (map (λ t. filter_map (program_named p) t.programs) ts))
lists_from p i [] small h = refl
lists_from p i (t ∷ ts) small h =
    and_from (is_list_of (length p.programs) (filter_map (program_named p) t.programs)) _ (list_of_task p t small.0 h.0.known) (lists_from p (i + 1) ts small.1 h.1)

pub programs_made : (p : Described) → length (program_texts p) ≡ length p.programs
programs_made p = length-map (enumerate_from 0 p.programs) (program_text p) ∙ length-enumerate_from 0 p.programs

pub valid_lists : (p : Described) → IsWithinLimits p → AreScheduled p
    → IsTrue (list_all (is_list_of (length (project_made p).programs)) (project_made p).schedule)
unfolding project_made
valid_lists p within h =
    subst (λ (n : ℕ). IsTrue (list_all (is_list_of n) (schedule p))) (sym (programs_made p)) (lists_from p 0 p.tasks within.tasks.each h.listed)

pub valid_once : (p : Described) → AreScheduled p
    → IsTrue (list_all (is_listed_once (project_made p).schedule) (range_with_len 0 (length (project_made p).programs)))
unfolding project_made
valid_once p h = subst (λ (n : ℕ). IsTrue (list_all (is_listed_once (schedule p)) (range_with_len 0 n))) (sym (programs_made p)) h.once

-- ---- names and definitions of tasks

-- a test agrees with itself
agrees : (b : Bool) → agree b b ≡ true
agrees true = refl
agrees false = refl

events_told : (ts : List DescribedTask) → IsTrue (list_all is_name_of (zip (map (λ t. let n : TaskName = record { name = t.name; event = is_event t.def.kind } in n) ts) (map (λ t. t.def) ts)))
events_told [] = refl
events_told (t ∷ ts) = and_from (agree (is_event t.def.kind) (is_event t.def.kind)) _ (agrees (is_event t.def.kind)) (events_told ts)

pub task_lists : (p : Described) → HasTaskLists (project_made p)
unfolding project_made
task_lists p = record {
  names = length-map p.tasks _ ∙ sym (length-map p.tasks (λ t. t.def));
  lists = length-map p.tasks _ ∙ sym (length-map p.tasks (λ t. t.def));
  events = events_told p.tasks;
}

pub proper_tasks : (p : Described) → IsWithinLimits p → IsTrue (list_all is_proper_task (project_made p).tasks)
unfolding project_made
proper_tasks p within = all_made IsSmallTask (λ t. t.def) is_proper_task p.tasks (λ t small. small.proper) within.tasks.each

-- ---- continuous tasks

abbrev many_continuous : List DescribedTask → ℕ
many_continuous ts = length (filter is_continuous_task ts)

counted : {A : Type 0} (b : Bool) (x : A) (xs : List A)
    → cond b (suc (length xs)) (length xs) ≡ length (cond b (x ∷ xs) xs)
counted true x xs = refl
counted false x xs = refl

-- one more, where it is no second one
one_more : (b any : Bool) (n : ℕ) → (b && any) ≡ false → ((any || (b || false)) ≡ true → n ≡ 0) → n ≤ 1
    → (any ≡ true → cond b (suc n) n ≡ 0) × (cond b (suc n) n ≤ 1)
one_more true true n only later few = absurd (cc only)
one_more true false n only later few = ((λ q. absurd (cc q)), (let z : n ≡ 0 = later refl in omega arith))
one_more false true n only later few = ((λ q. later refl), few)
one_more false false n only later few = ((λ q. absurd (cc q)), few)

only_from : (p : Described) (done rest : List DescribedTask) → p.tasks ≡ done ++ rest
    → Each (IsListed p) (enumerate_from (length done) rest)
    → (list_any is_continuous_task done ≡ true → many_continuous rest ≡ 0) × (many_continuous rest ≤ 1)
only_from p done [] e h = ((λ _. refl), omega arith)
only_from p done (t ∷ ts) e h =
    let any = list_any is_continuous_task done in
    let before : take (length done) p.tasks ≡ done = ap (take (length done)) e ∙ take-append_seam done (t ∷ ts) in
    let here : (is_continuous_task t && any) ≡ false = subst (λ (us : List DescribedTask). (is_continuous_task t && list_any is_continuous_task us) ≡ false) before h.0.only in
    let next : length done + 1 ≡ length (done ++ t ∷ []) = sym (length-append done (t ∷ [])) in
    let later = only_from p (done ++ t ∷ []) ts (e ∙ sym (append_assoc done (t ∷ []) ts)) (subst (λ (k : ℕ). Each (IsListed p) (enumerate_from k ts)) next h.1) in
    let none : (any || (is_continuous_task t || false)) ≡ true → many_continuous ts ≡ 0 = λ q. later.0 (list_any-append is_continuous_task done (t ∷ []) ∙ q) in
    subst (λ (n : ℕ). (any ≡ true → n ≡ 0) × (n ≤ 1)) (counted (is_continuous_task t) t (filter is_continuous_task ts)) (one_more (is_continuous_task t) any (many_continuous ts) here none later.1)

same_count : (ts : List DescribedTask)
    → length (filter (λ t. is_continuous t.kind) (map (λ t. t.def) ts)) ≡ many_continuous ts
same_count [] = refl
same_count (t ∷ ts) =
    sym (counted (is_continuous_task t) t.def (filter (λ t. is_continuous t.kind) (map (λ t. t.def) ts)))
    ∙ ap (λ n. cond (is_continuous_task t) (suc n) n) (same_count ts)
    ∙ counted (is_continuous_task t) t (filter is_continuous_task ts)

pub one_continuous : (p : Described) → AreScheduled p → IsTrue (at_most_one_continuous (project_made p).tasks)
unfolding project_made
one_continuous p h =
    let tasks : List TaskDef = map (λ t. t.def) p.tasks in
    let few = (only_from p [] p.tasks refl h.listed).1 in
    le-leb (count_by (λ t. is_continuous t.kind) tasks) 1 (omega (arith, length-filter (λ t. is_continuous t.kind) tasks, same_count p.tasks, few))
