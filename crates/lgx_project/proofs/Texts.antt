-- Programs as they are read are the machine's.
use Rattle.std.proofs.Common.{◌≡◌, ℕ, ◌+◌, ◌<◌, List, [], ◌∷◌, length, map, nat_lt, drop, get_or, codes, Option, None, refl, ap, sym, subst, ◌∙◌}
use Rattle.std.specs.List.{enumerate_from}
use Rattle.std.proofs.lemmas.List.{at_drop_more}
use Rattle.spec_language.specs.declared.names.TaskName.{TaskName}
use Rattle.spec_language.specs.Checked.{CheckScope}
use Rattle.spec_language.specs.Declarations.{Declarations}
use Rattle.spec_machine.specs.Project as machine
use Rattle.spec_machine.specs.declared.limits.TheConstants.{MAX_PROJECT_INSTRUCTIONS}
use Rattle.spec_base.specs.Causes.{IsFaultOf}
use Rattle.lgx_json.proofs.Steps.{earlier, fielded}
use Rattle.spec_project.specs.declared.described.Described.{Described}
use Rattle.spec_project.specs.declared.described.DescribedProgram.{DescribedProgram}
use Rattle.spec_project.specs.declared.described.DescribedRoutine.{DescribedRoutine}
use Rattle.spec_project.specs.declared.fault.ProjectFault.{ProjectFault}
use Rattle.spec_project.specs.declared.fault.ProjectCode.TheVariants.{P11}
use Rattle.spec_project.specs.Faults.{or_else, first_from, first_of, here, in_field, refused_if}
use Rattle.spec_project.specs.Routines.{instructions_in, main_of, names_of_tasks, program_fault, program_text, program_texts, routine_text, routines_fault, scope_of}
use Rattle.spec_project.specs.Tags.{declarations}
use Rattle.lgx_edit.specs.declared.texts.ProgramText.{ProgramText}
use Rattle.lgx_edit.specs.Texts.{program_of, routine_of}
use Rattle.lgx_project.specs.Counting.{instructions_of}
use Rattle.lgx_project.specs.Programs.{program_as, program_fault_in, programs_from, read_as, scope_in}

routines_made : (scope : CheckScope) (rs : List DescribedRoutine) → map routine_of (map (read_as scope) rs) ≡ map (routine_text scope) rs
routines_made scope [] = refl
routines_made scope (r ∷ rs) = ap (λ (ts : List machine.RoutineText). routine_text scope r ∷ ts) (routines_made scope rs)

made_from : (p : Described) (n : ℕ) (qs : List DescribedProgram) → map program_of (programs_from (declarations p) (names_of_tasks p) n qs) ≡ map (program_text p) (enumerate_from n qs)
made_from p n [] = refl
made_from p n (q ∷ qs) =
    let rest = map program_of (programs_from (declarations p) (names_of_tasks p) (n + 1) qs) in
    ap (λ (ts : List machine.RoutineText). record { name = q.name; routines = ts; main = main_of q } ∷ rest) (routines_made (scope_of p n q) q.routines)
    ∙ ap (λ (ts : List machine.ProgramText). program_text p (n, q) ∷ ts) (made_from p (n + 1) qs)

pub programs_made : (p : Described) → map program_of (programs_from (declarations p) (names_of_tasks p) 0 p.programs) ≡ program_texts p
programs_made p = made_from p 0 p.programs

-- one program, and then the others
pub next_fault : (d : Declarations) (tasks : List TaskName) (qs : List DescribedProgram) (i : ℕ) (q : DescribedProgram) → i < length qs → q ≡ get_or qs i q
    → first_from (program_fault_in d tasks) i (drop i qs) ≡ or_else (program_fault_in d tasks i q) (first_from (program_fault_in d tasks) (i + 1) (drop (i + 1) qs))
next_fault d tasks qs i q lt is =
    at_drop_more (λ ys. first_from (program_fault_in d tasks) i ys) qs i q lt
    ∙ ap (λ (y : DescribedProgram). or_else (program_fault_in d tasks i y) (first_from (program_fault_in d tasks) (i + 1) (drop (i + 1) qs))) (sym is)

pub next_program : (d : Declarations) (tasks : List TaskName) (qs : List DescribedProgram) (i : ℕ) (q : DescribedProgram) → i < length qs → q ≡ get_or qs i q
    → programs_from d tasks i (drop i qs) ≡ program_as (scope_in d tasks i q) q ∷ programs_from d tasks (i + 1) (drop (i + 1) qs)
next_program d tasks qs i q lt is =
    at_drop_more (λ ys. programs_from d tasks i ys) qs i q lt
    ∙ ap (λ (y : DescribedProgram). program_as (scope_in d tasks i y) y ∷ programs_from d tasks (i + 1) (drop (i + 1) qs)) (sym is)

-- ---- what is refused of all programs

of_file : (p : Described) (d : Declarations) (tasks : List TaskName) (qs : List DescribedProgram) → d ≡ declarations p → tasks ≡ names_of_tasks p → qs ≡ p.programs → first_of (program_fault_in d tasks) qs ≡ first_of (program_fault p) p.programs
of_file p d tasks qs tags names all = rw (tags, names, all) refl

-- a program is refused
pub program_refused : (p : Described) (d : Declarations) (tasks : List TaskName) (qs : List DescribedProgram) (e r : Option ProjectFault) → d ≡ declarations p → tasks ≡ names_of_tasks p → qs ≡ p.programs
    → IsFaultOf (first_of (program_fault_in d tasks) qs) e → IsFaultOf (in_field (codes "programs") e) r → IsFaultOf (routines_fault p) r
unfolding routines_fault
program_refused p d tasks qs e r tags names all due told =
    let own = first_of (program_fault p) p.programs in
    let count = in_field (codes "programs") (refused_if (nat_lt MAX_PROJECT_INSTRUCTIONS (instructions_in p)) (here P11)) in
    earlier (in_field (codes "programs") own) count r (fielded (codes "programs") own e r (subst (λ (o : Option ProjectFault). IsFaultOf o e) (of_file p d tasks qs tags names all) due) told)

pub all_read : (p : Described) (d : Declarations) (tasks : List TaskName) (qs : List DescribedProgram) (texts : List ProgramText) → d ≡ declarations p → tasks ≡ names_of_tasks p → qs ≡ p.programs
    → texts ≡ programs_from d tasks 0 qs → texts ≡ programs_from (declarations p) (names_of_tasks p) 0 p.programs
all_read p d tasks qs texts tags names all made = made ∙ rw (tags, names, all) refl

-- no program is, so that their instructions are counted
pub all_counted : (p : Described) (d : Declarations) (tasks : List TaskName) (qs : List DescribedProgram) (texts : List ProgramText) → d ≡ declarations p → tasks ≡ names_of_tasks p → qs ≡ p.programs
    → first_of (program_fault_in d tasks) qs ≡ None → texts ≡ programs_from d tasks 0 qs
    → routines_fault p ≡ in_field (codes "programs") (refused_if (nat_lt MAX_PROJECT_INSTRUCTIONS (instructions_of (map program_of texts))) (here P11))
unfolding routines_fault
all_counted p d tasks qs texts tags names all none made =
    let own : first_of (program_fault p) p.programs ≡ None = sym (of_file p d tasks qs tags names all) ∙ none in
    let read : texts ≡ programs_from (declarations p) (names_of_tasks p) 0 p.programs = all_read p d tasks qs texts tags names all made in
    let counted : instructions_of (map program_of texts) ≡ instructions_in p = ap (λ (ts : List ProgramText). instructions_of (map program_of ts)) read ∙ ap instructions_of (programs_made p) in
    ap (λ (o : Option ProjectFault). or_else (in_field (codes "programs") o) (in_field (codes "programs") (refused_if (nat_lt MAX_PROJECT_INSTRUCTIONS (instructions_in p)) (here P11)))) own
    ∙ ap (λ (n : ℕ). in_field (codes "programs") (refused_if (nat_lt MAX_PROJECT_INSTRUCTIONS n) (here P11))) (sym counted)
