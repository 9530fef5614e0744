use Rattle.std.proofs.Common.{◌≡◌, ◌∙◌, ap, sym}
use Rattle.std.specs.Prelude.{position}
use Rattle.spec_language.specs.Declarations.{Declarations, is_named}
use Rattle.lgx_tags.specs.Keys.{key_of}
use Rattle.lgx_tags.specs.Tables.{keys_of}
use Rattle.lgx_tags.specs.declared.key.Key.{Key}
use Rattle.lgx_tags.proofs.Lookups.{same_key, key_position, long_nowhere}
use Rattle.lgx_tags.proofs.declared.Declared.find.Goals as goal

pub returns-then-name-gt-MAX_TAG_NAME_BYTES-clause-number : goal.returns-then-name-gt-MAX_TAG_NAME_BYTES-clause-number
returns-then-name-gt-MAX_TAG_NAME_BYTES-clause-number c =
    let view : c.self.inside.entries.items ≡ c.args.self.now.entries = ap (λ (d : Declarations). d.entries) c.self.view_is in
    sym (ap (position (is_named c.args.scope c.args.name.now)) (sym view) ∙ long_nowhere c.self.inside.types c.self.inside.programs c.args.scope c.args.name.now c.self.inside.entries.items c.self.invariant.admitted c.if-name-gt-MAX_TAG_NAME_BYTES.true)

pub returns-clause-number : goal.returns-clause-number
returns-clause-number c =
    let view : c.self.inside.entries.items ≡ c.args.self.now.entries = ap (λ (d : Declarations). d.entries) c.self.view_is in
    c.get_index_of.ensures.index ∙ ap (λ (k : Key). position (same_key k) c.self.inside.keys.keys) c.of-key.ensures ∙ ap (position (same_key (key_of c.args.scope c.args.name.now))) (c.self.invariant.keyed ∙ ap keys_of view) ∙ key_position c.args.scope c.args.name.now c.args.self.now.entries
