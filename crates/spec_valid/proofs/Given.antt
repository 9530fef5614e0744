-- A project that a file gives is valid.
use Rattle.std.specs.Prelude.{◌≡◌, Option, Some, None, Result, Ok, Err, refl}
use Rattle.std.proofs.Common.{subst}
use Rattle.serde_json.specs.Data.{Data}
use Rattle.spec_base.proofs.Binds.{err_not_ok, ok_inj}
use Rattle.spec_machine.specs.ValidProject.{IsValidProject}
use Rattle.spec_project.specs.Limits.{IsWithinLimits}
use Rattle.spec_project.specs.Projects.{described_by, described_in, project_from, project_made, project_of, refusal, unless_refused}
use Rattle.spec_project.specs.Reading.{described, value_of}
use Rattle.spec_project.specs.Shape.{shape}
use Rattle.spec_project.specs.declared.described.Described.{Described}
use Rattle.spec_project.specs.declared.fault.ProjectFault.{ProjectFault}
use Rattle.spec_valid.specs.Accepted.{GivenIsValid}
use Rattle.spec_valid.proofs.Accepted.{accepted_is_valid}
use Rattle.spec_valid.proofs.ShapesWithin.{shape_within}

not_refused : {A : Type 0} (o : Option ProjectFault) (x y : A) → unless_refused o x ≡ Ok y → (o ≡ None) × (x ≡ y)
not_refused None x y h = (refl, ok_inj x y h)
not_refused (Some f) x y h = err_not_ok f y h

described_within : (o : Option Data) (p : Described) → described_by o ≡ Ok p → IsWithinLimits p
described_within None p h = err_not_ok _ p h
described_within (Some d) p h = let told = not_refused (shape d) (described d) p h in subst IsWithinLimits told.1 (shape_within d told.0)

pub given_is_valid : GivenIsValid
unfolding project_of described_in
given_is_valid bytes project h = go (described_by (value_of bytes)) refl h
  where
    go : (r : Result Described ProjectFault) → described_by (value_of bytes) ≡ r → project_from r ≡ Ok project → IsValidProject project
    go (Err f) e s = err_not_ok f project s
    go (Ok p) e s =
        let told = not_refused (refusal p) (project_made p) project s in
        subst IsValidProject told.1 (accepted_is_valid p (described_within (value_of bytes) p e) told.0)
