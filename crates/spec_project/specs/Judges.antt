-- What may be in a field: each kind of value, of numbers, of texts, of lists and of objects, as the first refusal of any other
-- value.
use Rattle.std.specs.Prelude.{ℕ, ℤ, pos, int_le, Bool, true, false, not, ◌&&◌, nat_lt, nat_le, List, [], ◌∷◌, length, Option, Some, None, is_some, option_and_then}
use Rattle.std.specs.List.{list_any, list_all}
use Rattle.std.specs.Str.{bytes_eq}
use Rattle.serde_json.specs.Data.{Data, Items, no_items, item, Members, no_members, member}
use Rattle.serde_json.specs.Find.{get, as_number, as_integer, as_str, as_bool, as_array, as_object}
use Rattle.lgx_num.specs.declared.number.Kind.TheVariants.{Dint}
use Rattle.lgx_num.specs.Number as number
use Rattle.lgx_num.specs.Name as names
use Rattle.spec_project.specs.declared.fault.ProjectFault.{ProjectFault}
use Rattle.spec_project.specs.declared.fault.ProjectCode.TheVariants.{P2, P3, P4, P5, P11}
use Rattle.spec_project.specs.declared.limits.TheConstants.{MAX_RUNG_BYTES}
use Rattle.spec_project.specs.Faults.{or_else, here, in_field, refused_if, first_at}

-- the first refusal of a value
abbrev pub Judge : Type 0
Judge = Data → Option ProjectFault

-- ---- texts

-- P4: it is no text; P5: it is none of those
abbrev pub text_refusal : (List ℕ → Bool) → Option (List ℕ) → Option ProjectFault
text_refusal fits None = Some (here P4)
text_refusal fits (Some text) = refused_if (not (fits text)) (here P5)

abbrev pub any_text : Judge
any_text d = text_refusal (λ _. true) (as_str d)

abbrev pub name : Judge
name d = text_refusal names.is_name (as_str d)

abbrev pub is_one_of : List (List ℕ) → List ℕ → Bool
is_one_of words text = list_any (λ word. bytes_eq text word) words

abbrev pub one_of : List (List ℕ) → Judge
one_of words d = text_refusal (is_one_of words) (as_str d)

abbrev pub rung : Judge
rung d = text_refusal (λ text. nat_le (length text) MAX_RUNG_BYTES) (as_str d)

-- ---- numbers

-- the whole number that a value is. A number with a fraction or an exponent is none, and one of more than 64 bits neither
abbrev pub integer : Data → Option ℤ
integer d = option_and_then as_integer (as_number d)

-- P4: it is no whole number; P5: it lies outside the range
abbrev pub is_between : ℤ → ℤ → ℤ → Bool
is_between least most n = int_le least n && int_le n most

abbrev pub integer_refusal : ℤ → ℤ → Option ℤ → Option ProjectFault
integer_refusal least most None = Some (here P4)
integer_refusal least most (Some n) = refused_if (not (is_between least most n)) (here P5)

abbrev pub between : ℤ → ℤ → Judge
between least most d = integer_refusal least most (integer d)

abbrev pub whole : ℕ → ℕ → Judge
whole least most d = between (pos least) (pos most) d

-- a number that a DINT can hold
abbrev pub dint : Judge
dint d = between (number.least Dint) (number.greatest Dint) d

-- P4: it is no truth value
abbrev pub truth : Judge
truth d = refused_if (not (is_some (as_bool d))) (here P4)

-- ---- lists

abbrev pub listed : Items → List Data
listed no_items = []
listed (item d ds) = d ∷ listed ds

-- P4: it is no list; P5: it has fewer elements than it must; P11: it has more than it may; and then its elements
abbrev pub list_refusal : ℕ → ℕ → Judge → Option Items → Option ProjectFault
list_refusal least most judge None = Some (here P4)
list_refusal least most judge (Some items) =
    or_else (refused_if (nat_lt (length (listed items)) least) (here P5))
    (or_else (refused_if (nat_lt most (length (listed items))) (here P11))
    (first_at judge (listed items)))

unfoldable pub list : ℕ → ℕ → Judge → Judge
list least most judge d = list_refusal least most judge (as_array d)

-- ---- objects

-- a field that an object may have: its key, whether the object must have it, and what may be there
pub record Field : Type 0 where
  pub key : List ℕ
  pub is_needed : Bool
  pub judge : Judge

abbrev pub needed : List ℕ → Judge → Field
needed key judge = record { key = key; is_needed = true; judge = judge }

abbrev pub optional : List ℕ → Judge → Field
optional key judge = record { key = key; is_needed = false; judge = judge }

-- P2: it is missing; and then what is there
abbrev pub value_refusal : Field → Option Data → Option ProjectFault
value_refusal f None = refused_if f.is_needed (here P2)
value_refusal f (Some d) = f.judge d

unfoldable pub field : Field → Judge
field f d = in_field f.key (value_refusal f (get f.key d))

-- its fields, in the order of the table
abbrev pub fields_of : List Field → Judge
fields_of [] d = None
fields_of (f ∷ fs) d = or_else (field f d) (fields_of fs d)

abbrev pub keys : Members → List (List ℕ)
keys no_members = []
keys (member key d ms) = key ∷ keys ms

abbrev pub is_field : List (List ℕ) → List ℕ → Bool
is_field known key = list_any (λ k. bytes_eq key k) known

abbrev pub keys_refusal : List (List ℕ) → Option Members → Option ProjectFault
keys_refusal known None = Some (here P4)
keys_refusal known (Some ms) = refused_if (not (list_all (is_field known) (keys ms))) (here P3)

-- P4: it is no object; P3: it has a field of another key
unfoldable pub only_keys : List (List ℕ) → Judge
only_keys known d = keys_refusal known (as_object d)

-- P4: it is no object
unfoldable pub any_object : Judge
any_object d = refused_if (not (is_some (as_object d))) (here P4)

abbrev pub keys_of : List Field → List (List ℕ)
keys_of [] = []
keys_of (f ∷ fs) = f.key ∷ keys_of fs

-- an object with these fields and no others
abbrev pub object : List Field → Judge
object fields d = or_else (only_keys (keys_of fields) d) (fields_of fields d)
