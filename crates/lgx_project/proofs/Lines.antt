-- What the line of a project's file is, and that it gives the same project.
use Rattle.std.proofs.Common.{◌≡◌, ℕ, ◌≤◌, Bool, true, false, cond, List, [], ◌∷◌, ◌++◌, Option, Some, None, option_map, unwrap_or, Result, Ok, Err, refl, sym, ap, ap₂, ◌∙◌, subst}
use Rattle.std.specs.Prelude.{IsOk}
use Rattle.std.specs.Str.{IsUtf8, is_utf8}
use Rattle.std.proofs.lemmas.Str.{IsUtf8-append}
use Rattle.json.proofs.Printed.Utf8.{IsUtf8-are_ascii}
use Rattle.serde_json.specs.Data.{Data, depth}
use Rattle.serde_json.specs.Read.{read, max_depth}
use Rattle.serde_json.specs.Written.{has_float}
use Rattle.serde_json.proofs.Nesting.{depth-read}
use Rattle.spec_machine.specs.Project.{Project}
use Rattle.spec_project.specs.declared.described.Described.{Described}
use Rattle.spec_project.specs.declared.fault.ProjectFault.{ProjectFault}
use Rattle.spec_project.specs.Projects.{unless_refused, described_by, described_in, project_from, project_of}
use Rattle.spec_project.specs.Reading.{described, value_of}
use Rattle.spec_project.specs.Shape.{shape}
use Rattle.spec_base.specs.Causes.{IsFaultOf}
use Rattle.lgx_json.specs.declared.error.ProjectError.{ProjectError}
use Rattle.lgx_json.specs.declared.error.ProjectError.TheVariants.{Memory}
use Rattle.lgx_json.specs.declared.error.ProjectError.TheVariants as error
use Rattle.lgx_json.specs.Answers.{IsRefusedWith, fault_of, if_missing}
use Rattle.lgx_json.proofs.Values.{value_found}
use Rattle.lgx_project.specs.Migrated.{with_newest_schema, line_of, migrated_text, unless_no_project, migrated}
use Rattle.lgx_project.proofs.KeyOrder.{ordered_read}
use Rattle.lgx_project.proofs.LineFeed.{read_ended}
use Rattle.lgx_project.proofs.Wholes.{has_no_float}
use Rattle.lgx_project.proofs.Schemas.{shape_kept, described_kept, ordered_kept, depth_kept}

-- ---- values of bytes

pub value_ended : (text : List ℕ) (d : Data) → IsUtf8 text → read text ≡ Some d → value_of (text ++ 10 ∷ []) ≡ Some d
value_ended text d utf8 is =
    value_found (text ++ 10 ∷ []) d (IsUtf8-append text (10 ∷ []) utf8 (IsUtf8-are_ascii (10 ∷ []) refl)) (read_ended text ∙ is)

read_from : (b : Bool) (o : Option Data) (d : Data) → cond b o None ≡ Some d → o ≡ Some d
read_from true o d e = e
read_from false o d e = absurd (cc)

value_read : (bytes : List ℕ) (d : Data) → value_of bytes ≡ Some d → read bytes ≡ Some d
unfolding value_of
value_read bytes d is = read_from (is_utf8 bytes) (read bytes) d is

pub shallow : (bytes : List ℕ) (d : Data) → value_of bytes ≡ Some d → depth (with_newest_schema d) ≤ max_depth
shallow bytes d is = depth_kept d max_depth (depth-read bytes d (value_read bytes d is))

-- ---- projects

right_shape_by : (o : Option ProjectFault) (p : Described) → IsOk (project_from (unless_refused o p)) → o ≡ None
right_shape_by None p ok = refl
right_shape_by (Some fault) p ok = absurd (cc)

-- a project has the right shape
right_shape : (bytes : List ℕ) (d : Data) → IsOk (project_of bytes) → value_of bytes ≡ Some d → shape d ≡ None
unfolding project_of described_in
right_shape bytes d ok is = right_shape_by (shape d) (described d) (subst (λ v. IsOk (project_from (described_by v))) is ok)

pub has_value : (bytes : List ℕ) → IsOk (project_of bytes) → value_of bytes ≡ None → ⊥
unfolding project_of described_in
has_value bytes ok none = let refused : IsOk (project_from (described_by None)) = subst (λ v. IsOk (project_from (described_by v))) none ok in absurd (cc)

pub whole_numbers : (bytes : List ℕ) (d : Data) → IsOk (project_of bytes) → value_of bytes ≡ Some d → has_float (with_newest_schema d) ≡ false
whole_numbers bytes d ok is =
    let ordered = ordered_kept d (ordered_read bytes d (value_read bytes d is)) in
    has_no_float (with_newest_schema d) ordered (shape_kept d (right_shape bytes d ok is))

pub same_project : (bytes text : List ℕ) (d : Data) → IsOk (project_of bytes) → value_of bytes ≡ Some d → value_of text ≡ Some (with_newest_schema d) → project_of text ≡ project_of bytes
unfolding project_of described_in
same_project bytes text d ok is written =
    let right = right_shape bytes d ok is in
    ap (λ v. project_from (described_by v)) written
    ∙ ap₂ (λ o p. project_from (unless_refused o p)) (shape_kept d right ∙ sym right) (described_kept d right)
    ∙ ap (λ v. project_from (described_by v)) (sym is)

-- ---- what the definition gives

given_line : (r : Result Project ProjectFault) (line : List ℕ) → IsOk r → unless_no_project r line ≡ Ok line
given_line (Ok p) line ok = refl
given_line (Err fault) line ok = absurd (cc)

pub line_is : (bytes : List ℕ) (d : Data) → IsOk (project_of bytes) → value_of bytes ≡ Some d → migrated bytes ≡ Ok (line_of (with_newest_schema d))
unfolding migrated migrated_text
line_is bytes d ok is =
    given_line (project_of bytes) (migrated_text bytes) ok
    ∙ ap (λ v. Ok (unwrap_or (option_map (λ x. line_of (with_newest_schema x)) v) [])) is

pub same_refusal : (bytes : List ℕ) (o : Option ProjectFault) → IsRefusedWith (project_of bytes) o → IsRefusedWith (migrated bytes) o
unfolding migrated
same_refusal bytes None h = tt
same_refusal bytes (Some fault) h = ap (λ r. unless_no_project r (migrated_text bytes)) h

-- a project's bytes have a value, so none of its refusals is due
pub only_memory : (bytes : List ℕ) (e : ProjectError) → IsOk (project_of bytes) → IsFaultOf (if_missing (value_of bytes)) (fault_of e) → e ≡ Memory
only_memory bytes Memory ok h = refl
only_memory bytes (error.Project fault) ok h = by_value (value_of bytes) refl h
  where
    by_value : (v : Option Data) → value_of bytes ≡ v → if_missing v ≡ Some fault → error.Project fault ≡ Memory
    by_value None is missing = absurd (has_value bytes ok is)
    by_value (Some d) is missing = absurd (cc)
