use Rattle.std.proofs.Common.{refl, sym}
use Rattle.lgx_places.proofs.Scoped.{found_from, found_nowhere, found_plain}
use Rattle.lgx_places.proofs.named.named.Goals as goal

pub returns-in_default-clause-named : goal.returns-in_default-clause-named
returns-in_default-clause-named c =
    rw (found_plain c.args.file.now c.args.text.now c.in_default.ensures.none) (rw c.requires.tags at c.named_from.ensures.named)

pub returns-in-Some-program_named-clause-named : goal.returns-in-Some-program_named-clause-named
returns-in-Some-program_named-clause-named c =
    rw (found_from c.args.file.now c.args.text.now c.in-Some.name.now c.in-Some.rest.now c.in-Some-program_named.program c.in-Some.ensures.some (sym c.in-Some-program_named.ensures)) (rw c.requires.tags at c.named_from-in-Some-program_named.ensures.named)

pub returns-in-None-clause-named : goal.returns-in-None-clause-named
returns-in-None-clause-named c =
    rw (found_nowhere c.args.file.now c.args.text.now c.in-Some.name.now c.in-Some.rest.now c.in-Some.ensures.some (sym c.in-None.ensures), c.unnamed.ensures) refl
