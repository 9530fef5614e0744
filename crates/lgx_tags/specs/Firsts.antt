-- Entries whose names are their own.
use Rattle.std.specs.Prelude.{◌≡◌, ℕ, List, position, slice_get, Some}
use Rattle.spec_language.specs.Declarations.{Entry, is_named}

-- each entry is the first of its name in its scope
abbrev pub AreFirst : List Entry → Type 0
AreFirst entries = (i : ℕ) (e : Entry) → slice_get entries i ≡ Some e → position (is_named e.scope e.name) entries ≡ Some i
