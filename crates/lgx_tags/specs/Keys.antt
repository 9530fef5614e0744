-- Names in their scopes as keys: two are equal exactly where the scopes are, and the names but for case.
use Rattle.std.specs.Prelude.{ℕ, List, ◌++◌, length, map, drop, replicate, Option, Some, None}
use Rattle.std.specs.Char.{to_ascii_lowercase}
use Rattle.spec_base.specs.declared.limits.TheConstants.{MAX_TAG_NAME_BYTES}
use Rattle.spec_language.specs.declared.tag.Scope.{Scope}
use Rattle.spec_language.specs.declared.tag.Scope.TheVariants.{Controller, Program}
use Rattle.lgx_tags.specs.declared.key.Key.{Key}

abbrev pub program_of : Scope → Option ℕ
program_of Controller = None
program_of (Program p) = Some p

-- the name in lower case, with zeros after it
abbrev pub lowered : List ℕ → List ℕ
lowered name = map to_ascii_lowercase (name ++ drop (length name) (replicate MAX_TAG_NAME_BYTES 0))

abbrev pub key_of : Scope → List ℕ → Key
key_of scope name = record { program = program_of scope; len = length name; bytes = lowered name }
