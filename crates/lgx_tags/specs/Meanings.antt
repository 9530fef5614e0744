-- What names are declared as.
use Rattle.std.specs.Prelude.{Option, Some, None}
use Rattle.spec_language.specs.declared.types.DataType.{DataType}
use Rattle.spec_language.specs.Declarations.{Meaning, tag, alias}
use Rattle.lgx_tags.specs.declared.entry.Meaning.{Meaning as Kept}
use Rattle.lgx_tags.specs.declared.entry.Meaning.TheVariants.{Tag, Alias}

abbrev pub meaning_of : Kept → Meaning
meaning_of (Tag of) = tag of
meaning_of (Alias target) = alias target

-- the type of a tag
abbrev pub type_in : Meaning → Option DataType
type_in (tag of) = Some of
type_in (alias target) = None
