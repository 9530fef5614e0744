use Rattle.std.proofs.Common.{◌≡◌, ◌∙◌, false, ap, sym}
use Rattle.std.proofs.lemmas.Option.{IfSome_then}
use Rattle.spec_language.specs.Declarations.{Declarations}
use Rattle.lgx_tags.specs.Tables.{has_own}
use Rattle.lgx_tags.proofs.Lookups.{own_seen, seen_alone}
use Rattle.lgx_tags.proofs.declared.Declared.seen_guessed.Goals as goal

pub returns-then-not-self-clause-number : goal.returns-then-not-self-clause-number
returns-then-not-self-clause-number c =
    let view : c.self.inside.entries.items ≡ c.args.self.now.entries = ap (λ (d : Declarations). d.entries) c.self.view_is in
    let none : has_own c.args.self.now.entries ≡ false = ap has_own (sym view) ∙ sym c.self.invariant.owned ∙ c.if-not-self.true in
    IfSome_then c.guessed.result c.guessed.ensures.first (λ i q. seen_alone c.args.scope c.args.name.now c.args.self.now.entries none ∙ q)

pub returns-clause-number : goal.returns-clause-number
returns-clause-number c = IfSome_then c.guessed-2.result c.guessed-2.ensures.first (own_seen c.args.scope c.args.name.now c.args.self.now.entries)
