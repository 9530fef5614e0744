use Rattle.std.proofs.Common.{◌≡◌, ◌++◌, drop}
use Rattle.spec_project.specs.Tags.{tags_in}
use Rattle.lgx_declare.specs.AliasPlaces.{alias_places}
use Rattle.lgx_declare.specs.Declaring.{tags_from}
use Rattle.lgx_declare.proofs.declare.add_aliases.Given as goal

abbrev pub invariant-loop-number : goal.invariant-loop-number
invariant-loop-number l = l.places.items ++ alias_places (tags_from l.scope l.number (drop l.number l.tags)) ≡ l.initial.places.items ++ alias_places (tags_in l.scope l.tags)
