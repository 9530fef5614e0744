-- What is refused of a file, pass after pass.
use Rattle.std.proofs.Common.{◌≡◌, Option, Some, None, Result, Ok, Err, OnOk, refl}
use Rattle.std.specs.Result.{result_and}
use Rattle.spec_project.specs.declared.fault.ProjectFault.{ProjectFault}
use Rattle.spec_project.specs.Faults.{or_else}
use Rattle.lgx_json.specs.Answers.{Passes, Reads}
use Rattle.lgx_json.specs.declared.error.ProjectError.{ProjectError}

or_both : (a b c : Option ProjectFault) → or_else (or_else a b) c ≡ or_else a (or_else b c)
or_both None b c = refl
or_both (Some f) b c = refl

handed_on : {A U : Type 0} (fault : Option ProjectFault) (table wanted : A) (judged : Result U ProjectError) → Passes fault judged → OnOk judged (table ≡ wanted) → Reads fault wanted (result_and judged (Ok table))
handed_on fault table wanted (Ok u) h k = (h, k)
handed_on fault table wanted (Err error) h k = h

-- the table, where neither a name nor a type is refused
pub table_judged : {A U : Type 0} (names types tags aliases tasks : Option ProjectFault) (table wanted : A) (judged : Result U ProjectError) (r : Result A ProjectError)
    → names ≡ None → types ≡ None → Passes (or_else tags (or_else aliases tasks)) judged → OnOk judged (table ≡ wanted) → r ≡ result_and judged (Ok table)
    → Reads (or_else (or_else names (or_else types (or_else tags aliases))) tasks) wanted r
table_judged names types tags aliases tasks table wanted judged r no_name no_type h k is =
    rw (is, no_name, no_type, or_both tags aliases tasks) (handed_on (or_else tags (or_else aliases tasks)) table wanted judged h k)
