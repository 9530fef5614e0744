use Rattle.std.proofs.Common.{◌≡◌, ◌++◌, drop}
use Rattle.spec_project.specs.Tags.{scoped_tags}
use Rattle.lgx_declare.specs.AliasPlaces.{alias_places}
use Rattle.lgx_declare.specs.Declaring.{program_tags_from}
use Rattle.lgx_declare.proofs.declare.all_alias_places.Given as goal

abbrev pub invariant-loop-i : goal.invariant-loop-i
invariant-loop-i l = l.places.items ++ alias_places (program_tags_from l.i (drop l.i l.file.programs)) ≡ alias_places (scoped_tags l.file)
