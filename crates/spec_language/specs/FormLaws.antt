-- The grammar of operand forms, and the law that reading by tokens is it.
use Rattle.std.specs.Prelude.{◌≡◌, ℕ, not, List, [], ◌∷◌, ◌++◌, IsTrue, Some, ◌↔◌}
use Rattle.lgx_num.specs.Name.{is_name}
use Rattle.spec_language.specs.OperandForm.{is_tag_name, are_digits, digits_number, Form, tag, member, element, indexed, bit, is_bit, form}

-- a tag name; after a form that is no bit a dot and a member's name, digits or another form in brackets, or a dot and the
-- digits of a bit
abbrev pub SpellsForm : Form → List ℕ → Type 0
SpellsForm (tag name) text = IsTrue (is_tag_name name) × (text ≡ name)
SpellsForm (member f name) text = (t : List ℕ) × SpellsForm f t × IsTrue (not (is_bit f)) × IsTrue (is_name name) × (text ≡ t ++ 46 ∷ name)
SpellsForm (element f n) text = (t digits : List ℕ) × SpellsForm f t × IsTrue (not (is_bit f)) × IsTrue (are_digits 10 digits) × (digits_number 10 digits ≡ n) × (text ≡ t ++ 91 ∷ (digits ++ 93 ∷ []))
SpellsForm (indexed f sub) text = (t inner : List ℕ) × SpellsForm f t × IsTrue (not (is_bit f)) × SpellsForm sub inner × (text ≡ t ++ 91 ∷ (inner ++ 93 ∷ []))
SpellsForm (bit f n) text = (t digits : List ℕ) × SpellsForm f t × IsTrue (not (is_bit f)) × IsTrue (are_digits 10 digits) × (digits_number 10 digits ≡ n) × (text ≡ t ++ 46 ∷ digits)

abbrev pub ReadsForms : Type 0
ReadsForms = (text : List ℕ) (f : Form) → (form text ≡ Some f) ↔ SpellsForm f text
