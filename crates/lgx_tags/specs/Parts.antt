-- The parts of an operand's text after a tag's name.
use Rattle.std.specs.Prelude.{ℕ, Bool, true, ◌||◌, ◌==◌, List, [], ◌∷◌, Option, Some, None, IsTrue, if◌then◌else◌, ⊤}
use Rattle.spec_language.specs.OperandForm.{are_digits, Token, word, dot, opening, closing}
use Rattle.lgx_tags.specs.declared.part.OperandPart.{OperandPart as PartRead}
use Rattle.lgx_tags.specs.declared.part.OperandPart.TheVariants.{Dotted, Element, Opened, Closed}

-- a dot and a word, digits in brackets, a bracket and the word after it, a closing bracket
pub data OperandPart : Type 0 where
  dotted : List ℕ → OperandPart
  element : List ℕ → OperandPart
  opened : List ℕ → OperandPart
  closed : OperandPart

abbrev pub part_of : PartRead → OperandPart
part_of (Dotted w) = dotted w.now
part_of (Element w) = element w.now
part_of (Opened w) = opened w.now
part_of Closed = closed

-- what stands for an element is digits
abbrev pub ElementIsDigits : OperandPart → Type 0
ElementIsDigits (dotted w) = ⊤
ElementIsDigits (element w) = IsTrue (are_digits 10 w)
ElementIsDigits (opened w) = ⊤
ElementIsDigits closed = ⊤

-- the first part and the tokens after it, or none where the tokens begin with no part
abbrev pub after_digits : List ℕ → List Token → Option (OperandPart × List Token)
after_digits w (closing ∷ ts) = Some (element w, ts)
after_digits w _ = None

abbrev pub first_part : List Token → Option (OperandPart × List Token)
first_part (dot ∷ word w ∷ ts) = Some (dotted w, ts)
first_part (opening ∷ word w ∷ ts) = if are_digits 10 w then after_digits w ts else Some (opened w, ts)
first_part (closing ∷ ts) = Some (closed, ts)
first_part _ = None

-- what tokens give from a state on, where each part says what it makes of the state and of what follows: at the end of the
-- tokens, and where they go on with no part
abbrev pub over_parts : {S R : Type 0} → (OperandPart → (S → R) → S → R) → (S → R) → (S → R) → List Token → S → R
over_parts step end bad [] s = end s
over_parts step end bad (dot ∷ word w ∷ ts) s = step (dotted w) (over_parts step end bad ts) s
over_parts step end bad (opening ∷ word w ∷ closing ∷ ts) s =
    if are_digits 10 w
    then step (element w) (over_parts step end bad ts) s
    else step (opened w) (step closed (over_parts step end bad ts)) s
over_parts step end bad (opening ∷ word w ∷ ts) s = if are_digits 10 w then bad s else step (opened w) (over_parts step end bad ts) s
over_parts step end bad (closing ∷ ts) s = step closed (over_parts step end bad ts) s
over_parts step end bad _ s = bad s

-- ---- words

-- a byte that comes between words
abbrev pub is_mark : ℕ → Bool
is_mark c = (c == 46) || (c == 91) || (c == 93)

-- what may come after a word
abbrev pub begins_marked : List ℕ → Bool
begins_marked [] = true
begins_marked (c ∷ cs) = is_mark c

-- a word before tokens, where it has a byte
abbrev pub with_word : List ℕ → List Token → List Token
with_word [] ts = ts
with_word (c ∷ cs) ts = word (c ∷ cs) ∷ ts
