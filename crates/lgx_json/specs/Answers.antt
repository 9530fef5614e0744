-- What reading a part of a file answers.
use Rattle.std.specs.Prelude.{◌≡◌, Option, Some, None, Result, Ok, Err, ⊤}
use Rattle.serde_json.specs.Data.{Data}
use Rattle.spec_base.specs.Causes.{IsFaultOf}
use Rattle.spec_project.specs.declared.fault.ProjectCode.TheVariants.{P1}
use Rattle.spec_project.specs.Faults.{here}
use Rattle.spec_project.specs.declared.fault.ProjectFault.{ProjectFault}
use Rattle.lgx_json.specs.declared.error.ProjectError.{ProjectError}
use Rattle.lgx_json.specs.declared.error.ProjectError.TheVariants.{Project, Memory}

-- out of memory has no refusal
abbrev pub fault_of : ProjectError → Option ProjectFault
fault_of (Project fault) = Some fault
fault_of Memory = None

-- the value, if there is no refusal; the refusal; or out of memory
abbrev pub Reads : {A : Type 0} → Option ProjectFault → A → Result A ProjectError → Type 0
Reads fault value (Ok x) = (fault ≡ None) × (x ≡ value)
Reads fault value (Err error) = IsFaultOf fault (fault_of error)

-- the same, of what gives nothing but a refusal
abbrev pub Passes : {A : Type 0} → Option ProjectFault → Result A ProjectError → Type 0
Passes fault (Ok x) = fault ≡ None
Passes fault (Err error) = IsFaultOf fault (fault_of error)

-- the same, of a value that is there if there is no refusal
abbrev pub ReadsField : {A : Type 0} → Option ProjectFault → Option A → Result A ProjectError → Type 0
ReadsField fault value (Ok x) = (fault ≡ None) × (value ≡ Some x)
ReadsField fault value (Err error) = IsFaultOf fault (fault_of error)

abbrev pub IsRefusedWith : {A : Type 0} → Result A ProjectFault → Option ProjectFault → Type 0
IsRefusedWith wanted None = ⊤
IsRefusedWith wanted (Some fault) = wanted ≡ Err fault

-- the value that is wanted, the refusal that is due, or out of memory
abbrev pub AnswersJson : {A : Type 0} → Result A ProjectFault → Result A ProjectError → Type 0
AnswersJson wanted (Ok x) = wanted ≡ Ok x
AnswersJson wanted (Err error) = IsRefusedWith wanted (fault_of error)

-- P1: there is no value
abbrev pub if_missing : Option Data → Option ProjectFault
if_missing None = Some (here P1)
if_missing (Some d) = None
