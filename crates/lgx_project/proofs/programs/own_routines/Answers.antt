use Rattle.std.proofs.Common.{ℕ, List, codes, ◌∙◌, subst}
use Rattle.spec_base.specs.Causes.{IsFaultOf}
use Rattle.spec_language.specs.Checked.{CheckScope}
use Rattle.spec_project.specs.declared.described.DescribedRoutine.{DescribedRoutine}
use Rattle.spec_project.specs.Faults.{first_at}
use Rattle.spec_project.specs.Routines.{routine_fault}
use Rattle.lgx_json.specs.Answers.{fault_of}
use Rattle.lgx_project.specs.Programs.{scope_in}
use Rattle.lgx_json.proofs.Steps.{fielded}
use Rattle.lgx_project.proofs.programs.own_routines.Goals as goal

pub returns : goal.returns
returns c =
    let scope : CheckScope = scope_in c.args.tags.now.declarations c.args.tasks.now c.args.number c.args.program.now in
    let named = subst (λ (names : List (List ℕ)). IsFaultOf (first_at (routine_fault (record scope { routines = names })) c.as_slice-2.result.now) (fault_of c.in-Err.error)) (c.as_slice.ensures.value ∙ c.in_ok-names.ensures) c.in-Err.ensures in
    let due = subst (λ (rs : List DescribedRoutine). IsFaultOf (first_at (routine_fault scope) rs) (fault_of c.in-Err.error)) c.as_slice-2.ensures named in
    fielded (codes "routines") (first_at (routine_fault scope) c.args.program.now.routines) (fault_of c.in-Err.error) (fault_of c.in_field.result) due c.in_field.ensures
