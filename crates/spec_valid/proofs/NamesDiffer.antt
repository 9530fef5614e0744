-- Names of which none repeats an earlier one differ.
use Rattle.std.specs.Prelude.{◌≡◌, ℕ, ◌+◌, Bool, false, not, ◌||◌, List, [], ◌∷◌, ◌++◌, length, map, take, None, Result, Ok, Err, IsTrue, refl}
use Rattle.std.specs.List.{AllByRecursion as Each, enumerate_from, list_any}
use Rattle.std.proofs.Common.{ap, sym, subst, ◌∙◌, length-append}
use Rattle.std.proofs.lemmas.Bool.{and_from, not_from_false, or_parts}
use Rattle.std.proofs.lemmas.List.{append_assoc}
use Rattle.std.proofs.lemmas.List.Folds.{list_any-append}
use Rattle.std.proofs.Math.Seq.{take-append_seam}
use Rattle.lgx_num.specs.Name.{same}
use Rattle.spec_language.specs.Checked.{CheckScope}
use Rattle.spec_language.specs.Resolution.{found_fixed}
use Rattle.spec_language.specs.declared.tag.Found.{Found}
use Rattle.spec_language.specs.declared.tag.TagCode.{TagCode}
use Rattle.spec_language.specs.declared.tag.Scope.TheVariants.{Controller}
use Rattle.spec_machine.specs.ValidProject.{HasDifferentNames, all_differ}
use Rattle.spec_project.specs.declared.described.Described.{Described}
use Rattle.spec_project.specs.declared.described.DescribedConnection.{DescribedConnection}
use Rattle.spec_project.specs.declared.described.DescribedProgram.{DescribedProgram}
use Rattle.spec_project.specs.declared.described.DescribedRoutine.{DescribedRoutine}
use Rattle.spec_project.specs.Faults.{first_from}
use Rattle.spec_project.specs.Names.{connection_names, main_fault, name_fault, names_fault, program_names, repeated_name, repeated_routine, routine_names, task_names}
use Rattle.spec_project.specs.Places.{connection_of}
use Rattle.spec_project.specs.Projects.{project_made}
use Rattle.spec_project.specs.Routines.{names_of_tasks, program_text, program_texts, routine_text, scope_of}
use Rattle.spec_project.specs.Tags.{declarations}
use Rattle.spec_valid.proofs.Lists.{all_made, each_numbered, made_of}
use Rattle.spec_valid.proofs.Passes.{neither, none_at, not_mapped, not_so}

-- ---- names of a list

-- an earlier name is the same
abbrev is_taken : List (List ℕ) → List ℕ → Bool
is_taken earlier name = list_any (λ e. same e name) earlier

abbrev IsNew : List (List ℕ) → List ℕ → Type 0
IsNew earlier name = is_taken earlier name ≡ false

-- none of those before is the same as one of the rest, and so is not the next one
apart : (earlier : List (List ℕ)) (x : List ℕ) (xs : List (List ℕ)) → Each (IsNew (earlier ++ x ∷ [])) xs
    → Each (IsNew earlier) xs × (list_any (same x) xs ≡ false)
apart earlier x [] h = (tt, refl)
apart earlier x (y ∷ ys) h =
    let both = or_parts (is_taken earlier y) (is_taken (x ∷ []) y) (sym (list_any-append (λ e. same e y) earlier (x ∷ [])) ∙ h.0) in
    let this = or_parts (same x y) false both.1 in
    let rest = apart earlier x ys h.1 in
    ((both.0, rest.0), ap (λ b. b || list_any (same x) ys) this.0 ∙ rest.1)

differ_from : (all earlier rest : List (List ℕ)) → all ≡ earlier ++ rest
    → first_from (name_fault all) (length earlier) rest ≡ None → Each (IsNew earlier) rest × IsTrue (all_differ rest)
differ_from all earlier [] e h = (tt, refl)
differ_from all earlier (x ∷ xs) e h =
    let before : take (length earlier) all ≡ earlier = ap (take (length earlier)) e ∙ take-append_seam earlier (x ∷ xs) in
    let split : all ≡ (earlier ++ x ∷ []) ++ xs = e ∙ sym (append_assoc earlier (x ∷ []) xs) in
    let next : length earlier + 1 ≡ length (earlier ++ x ∷ []) = sym (length-append earlier (x ∷ [])) in
    let both = neither (name_fault all (length earlier) x) (first_from (name_fault all) (length earlier + 1) xs) h in
    let here : is_taken (take (length earlier) all) x ≡ false = not_so _ _ (not_mapped _ _ (not_mapped _ _ both.0)) in
    let rest = differ_from all (earlier ++ x ∷ []) xs split (subst (λ (k : ℕ). first_from (name_fault all) k xs ≡ None) next both.1) in
    let parts = apart earlier x xs rest.0 in
    ((subst (λ (names : List (List ℕ)). IsNew names x) before here, parts.0), and_from (not (list_any (same x) xs)) (all_differ xs) (not_from_false (list_any (same x) xs) parts.1) rest.1)

pub names_differ : (names : List (List ℕ)) → repeated_name names ≡ None → IsTrue (all_differ names)
names_differ names h = (differ_from names [] names refl h).1

-- ---- names that a project keeps

program_names_kept : (p : Described) (i : ℕ) (qs : List DescribedProgram)
    → map (λ q. q.name) (map (program_text p) (enumerate_from i qs)) ≡ map (λ q. q.name) qs
program_names_kept p i [] = refl
program_names_kept p i (q ∷ qs) = ap (λ names. q.name ∷ names) (program_names_kept p (i + 1) qs)

pub routine_names_kept : (scope : CheckScope) (rs : List DescribedRoutine)
    → map (λ r. r.name) (map (routine_text scope) rs) ≡ map (λ r. r.name) rs
routine_names_kept scope rs = made_of (routine_text scope) (λ r. r.name) (λ r. r.name) (λ r. refl) rs

connection_name : (p : Described) (c : DescribedConnection) → (connection_of p c).name ≡ c.name
connection_name p c = go (found_fixed (declarations p) Controller c.tag) refl
  where
    go : (r : Result Found TagCode) → found_fixed (declarations p) Controller c.tag ≡ r
        → (connection_of p c).name ≡ c.name
    go (Ok f) e = rw (e, connection_of) refl
    go (Err code) e = rw (e, connection_of) refl

-- ---- the names of a project

programs_differ : (p : Described) → repeated_name (program_names p) ≡ None
    → IsTrue (all_differ (map (λ q. q.name) (program_texts p)))
programs_differ p h = subst (λ (names : List (List ℕ)). IsTrue (all_differ names)) (sym (program_names_kept p 0 p.programs)) (names_differ (program_names p) h)

routines_differ : (p : Described) (e : ℕ × DescribedProgram) → repeated_routine e.1 ≡ None
    → IsTrue (all_differ (map (λ r. r.name) (program_text p e).routines))
routines_differ p e h =
    subst (λ (names : List (List ℕ)). IsTrue (all_differ names)) (sym (routine_names_kept (scope_of p e.0 e.1) e.1.routines))
    (names_differ (routine_names e.1) (not_mapped _ _ h))

tasks_differ : (p : Described) → repeated_name (task_names p) ≡ None
    → IsTrue (all_differ (map (λ t. t.name) (names_of_tasks p)))
tasks_differ p h = subst (λ (names : List (List ℕ)). IsTrue (all_differ names)) (sym (made_of _ (λ t. t.name) (λ t. t.name) (λ t. refl) p.tasks)) (names_differ (task_names p) h)

connections_differ : (p : Described) → repeated_name (connection_names p) ≡ None
    → IsTrue (all_differ (map (λ c. c.name) (map (connection_of p) p.connections)))
connections_differ p h = subst (λ (names : List (List ℕ)). IsTrue (all_differ names)) (sym (made_of (connection_of p) (λ c. c.name) (λ c. c.name) (connection_name p) p.connections)) (names_differ (connection_names p) h)

-- what the pass over names refuses nothing of
pub record AreNamed (p : Described) : Type 0 where
  pub programs : repeated_name (program_names p) ≡ None
  pub routines : Each (λ q. repeated_routine q ≡ None) p.programs
  pub tasks : repeated_name (task_names p) ≡ None
  pub connections : repeated_name (connection_names p) ≡ None
  pub mains : Each (λ q. main_fault q ≡ None) p.programs

pub named_of : (p : Described) → names_fault p ≡ None → AreNamed p
unfolding names_fault
named_of p h =
    let a = neither _ _ h in
    let b = neither _ _ a.1 in
    let c = neither _ _ b.1 in
    let d = neither _ _ c.1 in
    record {
      programs = not_mapped _ _ a.0;
      routines = none_at repeated_routine p.programs (not_mapped _ _ b.0);
      tasks = not_mapped _ _ c.0;
      connections = not_mapped _ _ d.0;
      mains = none_at main_fault p.programs (not_mapped _ _ d.1);
    }

pub different_names : (p : Described) → AreNamed p → HasDifferentNames (project_made p)
unfolding project_made
different_names p h = record {
  programs = programs_differ p h.programs;
  routines = all_made (λ e. repeated_routine e.1 ≡ None) (program_text p) (λ q. all_differ (map (λ r. r.name) q.routines)) (enumerate_from 0 p.programs) (routines_differ p) (each_numbered (λ q. repeated_routine q ≡ None) 0 p.programs h.routines);
  tasks = tasks_differ p h.tasks;
  connections = connections_differ p h.connections;
}
