-- Texts whose tags' names are spelled as they were declared.
use Rattle.std.specs.Prelude.{◌≡◌, true, List, [], ◌∷◌, Option, Some, None, ⊤}
use Rattle.spec_language.specs.declared.tag.Found.{Found}
use Rattle.spec_language.specs.OperandForm.{is_tag_name}
use Rattle.lgx_tags.specs.Parts.{OperandPart, dotted, element, opened, closed}

-- the array whose bracket is open, if one is
abbrev pub listed : Option Found → List Found
listed None = []
listed (Some f) = f ∷ []

-- what begins an operand in brackets is a tag's name
abbrev pub HasTagName : OperandPart → Type 0
HasTagName (dotted w) = ⊤
HasTagName (element w) = ⊤
HasTagName (opened w) = is_tag_name w ≡ true
HasTagName closed = ⊤
