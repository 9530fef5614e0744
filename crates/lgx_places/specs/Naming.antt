-- What a text names, or its refusal; and the program that a text is seen from.
use Rattle.std.specs.Prelude.{◌≡◌, ℕ, true, List, Option, Some, None, Result, Ok, Err}
use Rattle.spec_base.specs.Causes.{IsFaultOf}
use Rattle.spec_language.specs.declared.tag.Found.{Found}
use Rattle.spec_language.specs.declared.tag.TagCode.{TagCode}
use Rattle.spec_project.specs.declared.fault.Inner.TheVariants.{OfTag}
use Rattle.spec_project.specs.declared.fault.ProjectFault.{ProjectFault}
use Rattle.spec_project.specs.declared.fault.ProjectCode.TheVariants.{P9}
use Rattle.spec_project.specs.Faults.{here_for}
use Rattle.spec_project.specs.Places.{has_scope, scope_name, scope_rest}
use Rattle.lgx_json.specs.declared.error.ProjectError.{ProjectError}
use Rattle.lgx_json.specs.Answers.{fault_of}

-- P9: a text names nothing
abbrev pub naming_fault : Result Found TagCode → Option ProjectFault
naming_fault (Ok f) = None
naming_fault (Err code) = Some (here_for P9 (OfTag code))

-- what is meant, the refusal that is due, or out of memory
abbrev pub Names : Result Found TagCode → Result Found ProjectError → Type 0
Names meant (Ok f) = meant ≡ Ok f
Names meant (Err error) = IsFaultOf (naming_fault meant) (fault_of error)

-- a text that is seen from the program of a name: the name, and the rest of the text
pub record IsScopedAs (text name rest : List ℕ) : Type 0 where
  pub scoped : has_scope text ≡ true
  pub named : scope_name text ≡ name
  pub after : scope_rest text ≡ rest
