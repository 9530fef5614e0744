use Rattle.std.proofs.Common.{sym, ◌∙◌}
use Rattle.spec_language.specs.Declarations.{bytes}
use Rattle.spec_project.specs.Tags.{declarations}
use Rattle.lgx_places.proofs.Sizes.{value_in_bounds}
use Rattle.lgx_places.proofs.places.read_place.Goals as goal

pub returns-clause-inside : goal.returns-clause-inside
returns-clause-inside c =
    rw c.kind_of.ensures
    (value_in_bounds (declarations c.args.file.now).types (bytes (declarations c.args.file.now)) c.in_ok-found.found (rw c.requires.tags at c.in_ok-found.ensures.lies) c.in_ok-found.ensures.fixed (sym c.is_one_value.ensures ∙ c.if-not-is_one_value.false))
