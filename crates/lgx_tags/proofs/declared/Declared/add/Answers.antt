use Rattle.std.proofs.Common.{◌≡◌, ◌<◌, length, ◌++◌, [], ◌∷◌, ◌∙◌, ap, sym, subst}
use Rattle.std.specs.Prelude.{List, position, None, ◌||◌}
use Rattle.spec_language.specs.declared.tag.Scope.{Scope}
use Rattle.lgx_tags.specs.Scopes.{is_own}
use Rattle.spec_language.specs.Declarations.{Entry, Declarations, is_named, bytes}
use Rattle.spec_language.specs.Resolution.{aliases}
use Rattle.lgx_tags.specs.Keys.{key_of}
use Rattle.lgx_tags.specs.Tables.{RepresentsDeclarations, IsAdmitted, keys_of}
use Rattle.lgx_tags.specs.declared.key.Key.{Key}
use Rattle.lgx_tags.proofs.Declares.{kept_more}
use Rattle.lgx_tags.proofs.declared.Declared.add.Goals as goal

pub add_key-requires-clause-free : goal.add_key-requires-clause-free
add_key-requires-clause-free c =
    let e : Entry = c.args.entry in
    subst (λ (d : Declarations). position (is_named e.scope e.name) d.entries ≡ None) (sym c.self.view_is) c.requires.free

pub invariant_of-self-2 : goal.invariant_of-self-2
invariant_of-self-2 c =
    let d : Declarations = record { types = c.self.inside.types; programs = c.self.inside.programs; entries = c.self.inside.entries.items } in
    let e : Entry = c.args.entry in
    let view : c.args.self.now ≡ d = sym c.self.view_is in
    let L : Declarations → Type 0 = λ d. IsAdmitted d.types d.programs e in
    let B : Declarations → Type 0 = λ d. c.args.count ≡ bytes (record d { entries = d.entries ++ e ∷ [] }) in
    let keys : c.add_key.new.keys.keys ≡ keys_of d.entries ++ key_of e.scope e.name ∷ [] = c.in_ok-add_key.ensures.ok in
    let items : c.push_within.new.entries.items ≡ d.entries ++ e ∷ [] = c.push_within.ensures ∙ ap (λ (es : List Entry). es ++ e ∷ []) c.add_key.ensures.same in
    let K : List Entry → List Key → Type 0 = λ es ks. RepresentsDeclarations (record { types = d.types; programs = d.programs; entries = es }) ks c.args.count c.with_own-any_own.result in
    let own : c.with_own-any_own.result ≡ (c.self.inside.any_own || is_own e.scope) = c.with_own-any_own.ensures ∙ ap (λ (s : Scope). c.self.inside.any_own || is_own s) c.scope.ensures in
    subst (λ (es : List Entry). K es c.add_key.new.keys.keys) (sym items) (subst (K (d.entries ++ e ∷ [])) (sym keys) (kept_more d e c.self.inside.keys.keys c.self.inside.bytes c.args.count c.self.inside.any_own c.with_own-any_own.result c.self.invariant (subst (λ (d : Declarations). position (is_named e.scope e.name) d.entries ≡ None) view c.requires.free) own (subst L view c.requires.admitted) (subst B view c.requires.counted) c.requires.room (subst (λ (d : Declarations). length (aliases (record d { entries = d.entries ++ e ∷ [] })) < 4294967296) view c.requires.few)))
