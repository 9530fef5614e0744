-- The fields of an object, group by group.
use Rattle.std.proofs.Common.{◌≡◌, List, [], ◌∷◌, ◌++◌, Option, Some, None, refl, ap, ◌∙◌, sym}
use Rattle.serde_json.specs.Data.{Data}
use Rattle.spec_project.specs.Faults.{or_else}
use Rattle.spec_project.specs.Judges.{Field, field, fields_of}

pub or_else_assoc : {A : Type 0} (a b c : Option A) → or_else (or_else a b) c ≡ or_else a (or_else b c)
or_else_assoc (Some x) b c = refl
or_else_assoc None b c = refl

pub fields_of_groups : (fs gs : List Field) (d : Data) → fields_of (fs ++ gs) d ≡ or_else (fields_of fs d) (fields_of gs d)
fields_of_groups [] gs d = refl
fields_of_groups (f ∷ fs) gs d = ap (λ o. or_else (field f d) o) (fields_of_groups fs gs d) ∙ sym (or_else_assoc (field f d) (fields_of fs d) (fields_of gs d))
