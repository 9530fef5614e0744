use Rattle.std.proofs.Common.{◌<◌, ◌++◌, [], ◌∷◌, length, sym, subst}
use Rattle.spec_language.specs.Declarations.{Entry, Declarations}
use Rattle.spec_language.specs.Resolution.{aliases}
use Rattle.lgx_tags.proofs.Declares.{tag_no_alias}
use Rattle.lgx_tags.proofs.declared.Declared.declare.Goals as goal

pub add-requires-clause-few : goal.add-requires-clause-few
add-requires-clause-few c =
    let d : Declarations = c.args.self.now in
    let few : length (aliases d) < 4294967296 = subst (λ (d : Declarations). length (aliases d) < 4294967296) c.self.view_is c.self.invariant.few in
    subst (λ (e : Entry). length (aliases (record d { entries = d.entries ++ e ∷ [] })) < 4294967296) (sym c.in_ok-entry.ensures) (tag_no_alias d c.args.scope c.args.name.now c.args.of few)
