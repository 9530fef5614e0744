-- What a value of a file is, and what is in a field: some value of that type, if it is another one or missing.
use Rattle.std.specs.Prelude.{ℕ, ℤ, pos, unsigned_abs, Bool, false, List, [], map, Option, option_map, unwrap_or, is_some}
use Rattle.serde_json.specs.Data.{Data, no_items}
use Rattle.serde_json.specs.Find.{get, as_str, as_bool, as_array}
use Rattle.spec_project.specs.Judges.{integer, listed}

-- ---- what a value is

abbrev pub text_of : Data → List ℕ
text_of d = unwrap_or (as_str d) []

abbrev pub number_of : ℕ → Data → ℕ
number_of default d = unwrap_or (option_map unsigned_abs (integer d)) default

abbrev pub integer_of : Data → ℤ
integer_of d = unwrap_or (integer d) (pos 0)

abbrev pub truth_of : Data → Bool
truth_of d = unwrap_or (as_bool d) false

abbrev pub elements_of : Data → List Data
elements_of d = listed (unwrap_or (as_array d) no_items)

-- ---- what is in a field

abbrev pub has_field : List ℕ → Data → Bool
has_field key d = is_some (get key d)

abbrev pub text_at : List ℕ → Data → List ℕ
text_at key d = unwrap_or (option_map text_of (get key d)) []

-- a number that may be left out
abbrev pub number_at : List ℕ → ℕ → Data → ℕ
number_at key default d = unwrap_or (option_map (number_of default) (get key d)) default

abbrev pub integer_at : List ℕ → Data → ℤ
integer_at key d = unwrap_or (option_map integer_of (get key d)) (pos 0)

abbrev pub truth_at : List ℕ → Data → Bool
truth_at key d = unwrap_or (option_map truth_of (get key d)) false

-- a list that may be left out, of what its elements describe
abbrev pub list_at : {A : Type 0} → List ℕ → (Data → A) → Data → List A
list_at key made d = unwrap_or (option_map (λ v. map made (elements_of v)) (get key d)) []

-- a name that may be left out
abbrev pub if_text_at : List ℕ → Data → Option (List ℕ)
if_text_at key d = option_map text_of (get key d)
