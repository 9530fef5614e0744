-- How operands are written: tag names, numbers, flags, and operand forms.
use Rattle.std.specs.Prelude.{ℕ, ◌+◌, ◌-◌, ◌*◌, ◌^◌, Bool, true, false, not, ◌&&◌, ◌||◌, ◌==◌, nat_le, nat_lt, if◌then◌else◌, List, [], ◌∷◌, length, filter, fold, ℤ, pos, neg_ℤ, Option, Some, None, option_map, find, drop, codes, bytes_eq, option_and_then}
use Rattle.std.specs.List.{list_all}
use Rattle.std.specs.Char.{is_digit, digit_value}
use Rattle.std.specs.Int.{w32, cast_signed}
use Rattle.spec_base.specs.declared.limits.TheConstants.{MAX_NAME_BYTES, MAX_TAG_NAME_BYTES, MAX_TAG_NAME_PARTS}
use Rattle.lgx_num.specs.Name.{is_name, is_name_byte, same}
use Rattle.lgx_num.specs.declared.place.Flag.{Flag}
use Rattle.lgx_num.specs.declared.place.Flag.TheVariants.{First, Overflow, Zero, Negative}
use Rattle.spec_base.specs.Pieces.{pieces, is_empty}

-- ---- tag names

-- a part after a colon: as many letters, digits or underscores as a name may have bytes, and one at least
abbrev pub is_part : List ℕ → Bool
is_part p = not (is_empty p) && nat_le (length p) MAX_NAME_BYTES && list_all is_name_byte p

-- a first part, S and Program alone excepted
abbrev pub may_lead : List ℕ → Bool
may_lead p = is_name p && not (same p (codes "S")) && not (same p (codes "Program"))

-- a name, or (profile) two parts or more joined by colons: not too many, and not too many bytes in all
abbrev pub is_joined : List (List ℕ) → Bool
is_joined [] = false
is_joined (p ∷ []) = is_name p
is_joined (p ∷ q ∷ ps) = may_lead p && is_part q && nat_le (length ps) (MAX_TAG_NAME_PARTS - 2) && list_all is_part ps

abbrev pub is_tag_name : List ℕ → Bool
is_tag_name text = nat_le (length text) MAX_TAG_NAME_BYTES && is_joined (pieces 58 text)

-- ---- digits and numbers

abbrev pub are_digits : ℕ → List ℕ → Bool
are_digits base text = not (is_empty text) && list_all (λ c. is_digit c base) text

-- digits with single underscores between them
abbrev pub are_grouped : ℕ → List ℕ → Bool
are_grouped base text = list_all (are_digits base) (pieces 95 text)

-- the number that digits make, underscores left out
abbrev pub digits_number : ℕ → List ℕ → ℕ
digits_number base text = fold (λ n c. n * base + digit_value c) 0 (filter (λ c. not (c == 95)) text)

-- a text that is a number: its value, unless it is outside its range
pub data Number : Type 0 where
  fitting : ℤ → Number
  outside : Number

abbrev pub within : Bool → ℤ → Number
within true n = fitting n
within false n = outside

abbrev pub if_grouped : ℕ → List ℕ → Number → Option Number
if_grouped base digits n = if are_grouped base digits then Some n else None

abbrev pub has_minus : List ℕ → Bool
has_minus [] = false
has_minus (c ∷ cs) = c == 45

-- decimal digits, maybe after a minus, with the range of 32 bits
abbrev pub decimal_number : List ℕ → Option Number
decimal_number text =
    if has_minus text
    then if_grouped 10 (drop 1 text) (within (nat_le (digits_number 10 (drop 1 text)) (2 ^ 31)) (neg_ℤ (pos (digits_number 10 (drop 1 text)))))
    else if_grouped 10 text (within (nat_lt (digits_number 10 text) (2 ^ 31)) (pos (digits_number 10 text)))

-- what a text stands for in a table of texts, as they are written
abbrev pub spelled_in : {A : Type 0} → List (List ℕ × A) → List ℕ → Option A
spelled_in {A} table text = option_map (λ (e : List ℕ × A). e.1) (find (λ e. bytes_eq e.0 text) table)

-- digits of base 2, 8 or 16 (profile): below 2 ^ 32, and taken as the signed number of the same 32 bits
abbrev pub base_of : List ℕ → Option ℕ
base_of = spelled_in ((codes "2", 2) ∷ (codes "8", 8) ∷ (codes "16", 16) ∷ [])

abbrev pub based_number : Option ℕ → List ℕ → Option Number
based_number None digits = None
based_number (Some base) digits = if_grouped base digits (within (nat_lt (digits_number base digits) (2 ^ 32)) (cast_signed w32 (digits_number base digits)))

abbrev pub number_in : List (List ℕ) → Option Number
number_in (digits ∷ []) = decimal_number digits
number_in (base ∷ digits ∷ []) = based_number (base_of base) digits
number_in _ = None

-- the number that a text is
abbrev pub number : List ℕ → Option Number
number text = number_in (pieces 35 text)

-- ---- flags, as they are written

abbrev pub flags : List (List ℕ × Flag)
flags = (codes "S:FS", First) ∷ (codes "S:V", Overflow) ∷ (codes "S:Z", Zero) ∷ (codes "S:N", Negative) ∷ []

abbrev pub flag : List ℕ → Option Flag
flag = spelled_in flags

-- ---- operand forms

-- a tag name, and after it members, elements by a number or by another operand, and last a bit
pub data Form : Type 0 where
  tag : List ℕ → Form
  member : Form → List ℕ → Form
  element : Form → ℕ → Form
  indexed : Form → Form → Form
  bit : Form → ℕ → Form

pub data Token : Type 0 where
  word : List ℕ → Token
  dot : Token
  opening : Token
  closing : Token

-- a byte before the tokens of what follows
abbrev pub put_byte : ℕ → List Token → List Token
put_byte c (word w ∷ ts) = word (c ∷ w) ∷ ts
put_byte c ts = word (c ∷ []) ∷ ts

abbrev pub put_token : ℕ → List Token → List Token
put_token c ts = if c == 46 then dot ∷ ts else if c == 91 then opening ∷ ts else if c == 93 then closing ∷ ts else put_byte c ts

-- dots, brackets, and the words between them
abbrev pub tokens : List ℕ → List Token
tokens [] = []
tokens (c ∷ cs) = put_token c (tokens cs)

abbrev pub is_bit : Form → Bool
is_bit (tag n) = false
is_bit (member f n) = false
is_bit (element f i) = false
is_bit (indexed f sub) = false
is_bit (bit f n) = true

-- a word after a dot: a member's name, or the number of a bit
abbrev pub dotted : Form → List ℕ → Option Form
dotted f w = if is_bit f then None else if is_name w then Some (member f w) else if are_digits 10 w then Some (bit f (digits_number 10 w)) else None

-- a word alone in brackets: digits, or a tag's name
abbrev pub bracketed : Form → List ℕ → Option Form
bracketed f w = if is_bit f then None else if are_digits 10 w then Some (element f (digits_number 10 w)) else if is_tag_name w then Some (indexed f (tag w)) else None

-- a word after a bracket that begins a longer operand
abbrev pub begun : Form → List ℕ → Option Form
begun f w = if is_bit f || not (is_tag_name w) then None else Some (tag w)

-- the form that tokens make of one that was read so far, inside others whose brackets are open
abbrev pub form_from : List Token → List Form → Form → Option Form
form_from [] [] f = Some f
form_from [] (g ∷ outer) f = None
form_from (dot ∷ word w ∷ ts) outer f = option_and_then (form_from ts outer) (dotted f w)
form_from (opening ∷ word w ∷ closing ∷ ts) outer f = option_and_then (form_from ts outer) (bracketed f w)
form_from (opening ∷ word w ∷ ts) outer f = option_and_then (form_from ts (f ∷ outer)) (begun f w)
form_from (closing ∷ ts) (g ∷ outer) f = form_from ts outer (indexed g f)
form_from _ _ _ = None

abbrev pub form_of : List Token → Option Form
form_of (word w ∷ ts) = if is_tag_name w then form_from ts [] (tag w) else None
form_of _ = None

-- the operand form that a text is
abbrev pub form : List ℕ → Option Form
form text = form_of (tokens text)
