use Rattle.std.proofs.Common.{◌≡◌, ◌<◌, length, ◌++◌, [], ◌∷◌, ◌∙◌, ap, sym, subst, refl}
use Rattle.std.specs.List.{AllByRecursion as Each}
use Rattle.spec_language.specs.Declarations.{Entry, Declarations, bytes, alias}
use Rattle.lgx_tags.specs.Tables.{IsAdmitted}
use Rattle.spec_language.specs.Resolution.{aliases}
use Rattle.lgx_tags.proofs.Declares.{bytes_same, one_alias}
use Rattle.lgx_tags.proofs.declared.Declared.alias.Goals as goal

pub add-requires-clause-counted : goal.add-requires-clause-counted
add-requires-clause-counted c =
    let P : Declarations → Type 0 = λ d. Each (IsAdmitted d.types d.programs) d.entries in
    let e : Entry = record { scope = c.args.scope; name = c.args.name.now; meaning = alias c.args.target.now } in
    let d : Declarations = c.args.self.now in
    let more : bytes d ≡ bytes (record d { entries = d.entries ++ e ∷ [] }) = bytes_same d e (subst P c.self.view_is c.self.invariant.admitted) c.requires.scope refl in
    c.self.invariant.counted ∙ ap bytes c.self.view_is ∙ more ∙ ap (λ (e : Entry). bytes (record d { entries = d.entries ++ e ∷ [] })) (sym c.in_ok-entry.ensures)

pub add-requires-clause-few : goal.add-requires-clause-few
add-requires-clause-few c =
    let d : Declarations = c.args.self.now in
    subst (λ (e : Entry). length (aliases (record d { entries = d.entries ++ e ∷ [] })) < 4294967296) (sym c.in_ok-entry.ensures) (one_alias d c.args.scope c.args.name.now c.args.target.now c.requires.few)
