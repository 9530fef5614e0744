-- A number that was read is one of the definition's.
use Rattle.std.specs.Prelude.{◌^◌, ℕ, ◌+◌, ◌*◌, Bool, ◌&&◌, ◌||◌, ◌==◌, true, false, min, List, [], ◌∷◌, Option, Some, None, if◌then◌else◌}
use Rattle.std.specs.Char.{is_ascii_digit, is_digit, digit_value}
use Rattle.spec_language.specs.OperandForm.{fitting, outside}
use Rattle.spec_language.specs.OperandForm as form
use Rattle.lgx_check.specs.declared.number.Number.{Number}
use Rattle.lgx_check.specs.declared.number.Reading.{Reading}
use Rattle.lgx_check.specs.declared.number.Number.TheVariants.{Fitting, Outside}

-- a number begins with a minus or a digit
abbrev pub begins_number : List ℕ → Bool
begins_number [] = false
begins_number (c ∷ cs) = c == 45 || is_ascii_digit c

abbrev pub number_of : Number → form.Number
number_of (Fitting n) = fitting n
number_of Outside = outside

-- a byte more of digits in groups: a digit, or an underscore after one
abbrev pub read_byte : ℕ → Reading → ℕ → Option Reading
read_byte base r c =
    if is_digit c base then Some (record { number = min (r.number * base + digit_value c) (2 ^ 32); after_digit = true })
    else if r.after_digit && c == 95 then Some (record { number = r.number; after_digit = false })
    else None
