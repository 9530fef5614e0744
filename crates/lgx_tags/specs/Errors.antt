-- The faults that errors name: out of memory, which may come at any time, names none.
use Rattle.std.specs.Prelude.{ℕ, Option, Some, None}
use Rattle.spec_language.specs.declared.tag.TagCode.{TagCode}
use Rattle.lgx_tags.specs.declared.error.TagError.{TagError}
use Rattle.lgx_tags.specs.declared.error.TagError.TheVariants.{Tag, Memory}
use Rattle.lgx_tags.specs.declared.error.SealError.{SealError}
use Rattle.lgx_tags.specs.declared.error.SealError.TheVariants.{Alias, Memory as NoMemory}

abbrev pub fault_of : TagError → Option TagCode
fault_of (Tag code) = Some code
fault_of Memory = None

-- the alias that a table wasn't sealed for, by its number among the aliases, with its fault
abbrev pub bad_alias : SealError → Option (TagCode × ℕ)
bad_alias (Alias code alias) = Some (code, alias)
bad_alias NoMemory = None
