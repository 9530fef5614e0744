-- Routines of which none is refused: their rungs as they run, what these name, and how many there are.
use Rattle.std.specs.Prelude.{◌≡◌, ℕ, ◌+◌, ◌<◌, ◌≤◌, nat_lt, nat_le, List, [], ◌∷◌, length, map, position, unwrap_or, is_some, None, Result, Ok, Err, IsTrue, refl}
use Rattle.std.specs.List.{AllByRecursion as Each, enumerate_from, list_all, list_any}
use Rattle.std.specs.Result.{result_ok}
use Rattle.std.proofs.Common.{ap, sym, subst, ◌∙◌, arith}
use Rattle.std.proofs.lemmas.Bool.{and_from, le-leb, lt-ltb, ltb-false}
use Rattle.std.proofs.lemmas.Iterator.Adapters.{position_from-zero}
use Rattle.std.proofs.lemmas.List.{length-map}
use Rattle.lgx_num.specs.Name.{same}
use Rattle.lgx_rung.specs.Tokens.{read_rung}
use Rattle.lgx_rung.specs.declared.fault.CheckFault.{CheckFault}
use Rattle.spec_base.proofs.Lists.{any_some, each_map, value_of_some}
use Rattle.spec_language.specs.Checked.{CheckScope, checked}
use Rattle.spec_language.proofs.OperandBounds.{checked_lies}
use Rattle.spec_language.proofs.Reaching.{position_below}
use Rattle.spec_machine.proofs.CheckedExecutable.{checked_ready}
use Rattle.spec_machine.proofs.ValidProjects.{operands_of}
use Rattle.spec_machine.specs.Edits.{book_of}
use Rattle.spec_machine.specs.Edits.{scope_of as scope_in}
use Rattle.spec_machine.specs.Project.{ProgramText}
use Rattle.spec_machine.specs.ValidProject.{HasSealedTags, IsChecked, IsExecutableOver, has_targets, is_small_program, is_within, knows_targets}
use Rattle.spec_machine.specs.declared.limits.TheConstants.{MAX_PROJECT_INSTRUCTIONS, MAX_ROUTINES, MAX_RUNGS}
use Rattle.spec_project.proofs.Lists.{kept_few}
use Rattle.spec_project.specs.Limits.{HasFewRungs, IsSmallProgram, IsWithinLimits}
use Rattle.spec_project.specs.Names.{main_fault, routine_names}
use Rattle.spec_project.specs.Projects.{project_made}
use Rattle.spec_project.specs.Routines.{instructions_in, main_of, names_of_tasks, program_fault, program_text, program_texts, routine_fault, routine_text, routines_fault, rungs_of, rungs_refusal, scope_of, source_of}
use Rattle.spec_project.specs.Tags.{declarations}
use Rattle.spec_project.specs.declared.described.Described.{Described}
use Rattle.spec_project.specs.declared.described.DescribedProgram.{DescribedProgram}
use Rattle.spec_project.specs.declared.described.DescribedRoutine.{DescribedRoutine}
use Rattle.spec_scan.specs.Position.{Rungs}
use Rattle.spec_valid.proofs.Lists.{all_made, each_both, each_made, each_numbered}
use Rattle.spec_valid.proofs.NamesDiffer.{routine_names_kept}
use Rattle.spec_valid.proofs.Passes.{is_so, neither, none_at, none_of, not_mapped, not_so}
use Rattle.spec_valid.proofs.TargetsKnown.{checked_know_targets}
use Rattle.spec_valid.proofs.TypesAccepted.{within_of}

-- ---- what the pass over routines refuses nothing of

-- the routine's rungs are what its texts check to
abbrev IsRead : CheckScope → DescribedRoutine → Type 0
IsRead scope r = checked scope (source_of r) ≡ Ok (rungs_of scope r)

read_routine : (scope : CheckScope) (r : DescribedRoutine) → routine_fault scope r ≡ None → IsRead scope r
read_routine scope r h = go (checked scope (source_of r)) refl (neither _ _ h).1
  where
    go : (x : Result Rungs CheckFault) → checked scope (source_of r) ≡ x → rungs_refusal x ≡ None → IsRead scope r
    go (Ok rungs) e s = e ∙ sym (ap (λ (x : Result Rungs CheckFault). Ok (unwrap_or (result_ok x) [])) e)
    go (Err f) e s = absurd (cc s)

abbrev AreRead : Described → ℕ × DescribedProgram → Type 0
AreRead p e = Each (IsRead (scope_of p e.0 e.1)) e.1.routines

read_program : (p : Described) (e : ℕ × DescribedProgram) → program_fault p e.0 e.1 ≡ None → AreRead p e
read_program p e h =
    let scope = scope_of p e.0 e.1 in
    each_map (λ r. routine_fault scope r ≡ None) (IsRead scope) e.1.routines (read_routine scope) (none_at (routine_fault scope) e.1.routines (not_mapped _ _ (not_mapped _ _ h)))

pub record AreProgrammed (p : Described) : Type 0 where
  pub read : Each (AreRead p) (enumerate_from 0 p.programs)
  pub few : instructions_in p ≤ MAX_PROJECT_INSTRUCTIONS

pub programmed_of : (p : Described) → routines_fault p ≡ None → AreProgrammed p
unfolding routines_fault
programmed_of p h =
    let a = neither _ _ h in
    record {
      read = each_map (λ e. program_fault p e.0 e.1 ≡ None) (AreRead p) (enumerate_from 0 p.programs) (read_program p) (none_of (program_fault p) 0 p.programs (not_mapped _ _ a.0));
      few = ltb-false MAX_PROJECT_INSTRUCTIONS (instructions_in p) (not_so _ _ (not_mapped _ _ a.1));
    }

-- ---- rungs as they run

-- what a program's routines are checked against is what edits of it are
scope_kept : (p : Described) (e : ℕ × DescribedProgram)
    → scope_of p e.0 e.1 ≡ scope_in (declarations p) (names_of_tasks p) e.0 (book_of (program_text p e))
scope_kept p e = ap (λ (names : List (List ℕ)). record (scope_of p e.0 e.1) { routines = names }) (sym (routine_names_kept (scope_of p e.0 e.1) e.1.routines))

abbrev IsCheckedIn : Described → ℕ × ProgramText → Type 0
IsCheckedIn p e = Each (λ r. checked (scope_in (declarations p) (names_of_tasks p) e.0 (book_of e.1)) r.source ≡ Ok r.checked) e.1.routines

program_checked : (p : Described) (e : ℕ × DescribedProgram) → AreRead p e → IsCheckedIn p (e.0, program_text p e)
program_checked p e h =
    let scope = scope_of p e.0 e.1 in
    let after = scope_in (declarations p) (names_of_tasks p) e.0 (book_of (program_text p e)) in
    each_made (IsRead scope) (λ r. checked after r.source ≡ Ok r.checked) (routine_text scope) e.1.routines (λ r read. subst (λ (c : CheckScope). checked c (source_of r) ≡ Ok (rungs_of scope r)) (scope_kept p e) read) h

programs_checked : (p : Described) (i : ℕ) (qs : List DescribedProgram) → Each (AreRead p) (enumerate_from i qs)
    → Each (IsCheckedIn p) (enumerate_from i (map (program_text p) (enumerate_from i qs)))
programs_checked p i [] h = tt
programs_checked p i (q ∷ qs) h = (program_checked p (i, q) h.0, programs_checked p (i + 1) qs h.1)

pub checked_rungs : (p : Described) → AreProgrammed p
    → Each (IsChecked (project_made p)) (enumerate_from 0 (project_made p).programs)
unfolding project_made
checked_rungs p h = programs_checked p 0 p.programs h.read

pub executable_operands : (p : Described) → HasSealedTags (project_made p) → AreProgrammed p
    → Each (IsExecutableOver (length (project_made p).image)) (project_made p).programs
executable_operands p sealed h = operands_of (checked_ready checked_lies) (project_made p) sealed (checked_rungs p h)

-- ---- what they name

main_below : (q : DescribedProgram) → main_fault q ≡ None → main_of q < length q.routines
main_below q h =
    let is_main = λ (name : List ℕ). same name q.main in
    let there : IsTrue (list_any is_main (routine_names q)) = is_so _ _ (not_mapped _ _ h) in
    let some : IsTrue (is_some (position is_main (routine_names q))) =
    ap is_some (position_from-zero is_main (routine_names q)) ∙ sym (any_some is_main (routine_names q) 0) ∙ there in
    let main = value_of_some (position is_main (routine_names q)) some in
    let is : main_of q ≡ main.0 = ap (λ o. unwrap_or o 0) main.1 in
    omega (arith, position_below is_main (routine_names q) main.0 main.1, length-map q.routines (λ r. r.name), is)

-- of one program
abbrev TargetsOf : ℕ → ProgramText → Type 0
TargetsOf tasks program = (program.main < length program.routines) × IsTrue (list_all (λ r. knows_targets (length program.routines) tasks r.checked) program.routines)

program_targets : (p : Described) (e : ℕ × DescribedProgram) → AreRead p e → main_fault e.1 ≡ None
    → TargetsOf (length (map (λ t. t.def) p.tasks)) (program_text p e)
program_targets p e read main =
    let scope = scope_of p e.0 e.1 in
    let many : length (map (λ r. r.name) e.1.routines) ≡ length (map (routine_text scope) e.1.routines) = length-map e.1.routines (λ r. r.name) ∙ sym (length-map e.1.routines (routine_text scope)) in
    let tasks : length (names_of_tasks p) ≡ length (map (λ t. t.def) p.tasks) = length-map p.tasks _ ∙ sym (length-map p.tasks (λ t. t.def)) in (
      omega (arith, main_below e.1 main, length-map e.1.routines (routine_text scope)),
      all_made (IsRead scope) (routine_text scope) (λ r. knows_targets (length (map (routine_text scope) e.1.routines)) (length (map (λ t. t.def) p.tasks)) r.checked) e.1.routines
          (λ r is. subst (λ (n : ℕ). IsTrue (knows_targets n (length (map (λ t. t.def) p.tasks)) (rungs_of scope r))) many
          (subst (λ (n : ℕ). IsTrue (knows_targets (length (routine_names e.1)) n (rungs_of scope r))) tasks (checked_know_targets scope (source_of r) (rungs_of scope r) is)))
          read,
    )

pub known_targets : (p : Described) → AreProgrammed p → Each (λ q. main_fault q ≡ None) p.programs
    → IsTrue (list_all (has_targets (project_made p)) (project_made p).programs)
unfolding project_made
known_targets p h mains =
    all_made (λ e. AreRead p e × (main_fault e.1 ≡ None)) (program_text p) (has_targets (project_made p)) (enumerate_from 0 p.programs)
    (λ e both. let has = program_targets p e both.0 both.1 in and_from (nat_lt (main_of e.1) (length (program_text p e).routines)) _ (lt-ltb (main_of e.1) (length (program_text p e).routines) has.0) has.1)
    (each_both (AreRead p) (λ e. main_fault e.1 ≡ None) (enumerate_from 0 p.programs) h.read (each_numbered (λ q. main_fault q ≡ None) 0 p.programs mains))

-- ---- how many there are

short_routine : (scope : CheckScope) (r : DescribedRoutine) → HasFewRungs r
    → IsTrue (nat_le (length (routine_text scope r).source) MAX_RUNGS)
short_routine scope r h =
    let few = h.few in
    le-leb (length (source_of r)) MAX_RUNGS (omega (arith, kept_few (λ text. result_ok (read_rung text)) r.rungs, few))

small_program : (p : Described) (e : ℕ × DescribedProgram) → IsSmallProgram e.1
    → IsTrue (is_small_program (program_text p e))
small_program p e h =
    let scope = scope_of p e.0 e.1 in
    let many = length-map e.1.routines (routine_text scope) in
    let enough = h.routines.enough in
    let few = h.routines.few in
    and_from (is_within (length (map (routine_text scope) e.1.routines)) MAX_ROUTINES) (list_all (λ r. nat_le (length r.source) MAX_RUNGS) (map (routine_text scope) e.1.routines))
    (within_of (length (map (routine_text scope) e.1.routines)) MAX_ROUTINES (omega arith) (omega arith))
    (all_made HasFewRungs (routine_text scope) (λ r. nat_le (length r.source) MAX_RUNGS) e.1.routines (short_routine scope) h.routines.each)

pub small_programs : (p : Described) → IsWithinLimits p → IsTrue (list_all is_small_program (program_texts p))
small_programs p within = all_made (λ e. IsSmallProgram e.1) (program_text p) is_small_program (enumerate_from 0 p.programs) (small_program p) (each_numbered IsSmallProgram 0 p.programs within.programs.each)
