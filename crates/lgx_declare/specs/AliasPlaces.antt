-- Where aliases are.
use Rattle.std.specs.Prelude.{Bool, true, false, List, filter, map}
use Rattle.spec_project.specs.declared.described.DescribedMeaning.{DescribedMeaning}
use Rattle.spec_project.specs.declared.described.DescribedMeaning.TheVariants.{OfType as typed, AliasOf}
use Rattle.spec_project.specs.Tags.{ScopedTag, is_alias}
use Rattle.lgx_declare.specs.declared.declare.AliasPlace.{AliasPlace}

abbrev pub is_alias_meaning : DescribedMeaning → Bool
is_alias_meaning (typed of dim) = false
is_alias_meaning (AliasOf target) = true

abbrev pub place_of : ScopedTag → AliasPlace
place_of t = record { scope = t.scope; number = t.number }

abbrev pub alias_places : List ScopedTag → List AliasPlace
alias_places tags = map place_of (filter is_alias tags)
