use Rattle.std.proofs.Common.{◌≡◌, ◌∙◌, ap}
use Rattle.spec_language.specs.declared.tag.Scope.{Scope}
use Rattle.spec_language.specs.Declarations.{Entry}
use Rattle.lgx_tags.specs.Keys.{key_of}
use Rattle.lgx_tags.proofs.Declares.{keys_insert}
use Rattle.lgx_tags.proofs.declared.add_key.Goals as goal

pub returns-clause-ok : goal.returns-clause-ok
returns-clause-ok c =
    let e : Entry = c.args.entry.now in
    let key : c.of-key.result ≡ key_of e.scope e.name = c.of-key.ensures ∙ ap (λ (s : Scope). key_of s c.name.result.now) c.scope.ensures ∙ ap (key_of e.scope) c.name.ensures in
    c.in_ok-insert.ensures.keys ∙ keys_insert e.scope e.name c.args.entries.now.items c.args.keys.now.keys c.of-key.result c.requires.keyed key c.requires.free
