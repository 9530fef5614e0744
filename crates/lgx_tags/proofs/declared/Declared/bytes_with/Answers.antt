use Rattle.std.proofs.Common.{◌≡◌, ◌+◌, ◌∙◌, ap, subst, refl}
use Rattle.spec_language.specs.declared.types.TypeDecl.{TypeDecl}
use Rattle.std.specs.Prelude.{List}
use Rattle.spec_language.specs.Layout.{round_up, size_of}
use Rattle.spec_language.specs.Declarations.{Entry, Declarations, bytes, tag, declared_as}
use Rattle.lgx_tags.proofs.Spans.{padded_size}
use Rattle.lgx_tags.proofs.Declares.{AreInScopes, all_placed, bytes_more}
use Rattle.lgx_tags.proofs.declared.Declared.bytes_with.Goals as goal

pub returns : goal.returns
returns c = record {
  value = λ scope name h.
      let P : Declarations → Type 0 = λ d. AreInScopes d.programs d.entries in
      let e : Entry = record { scope = scope; name = name; meaning = tag c.args.of } in
      let placed : P c.args.self.now = subst P c.self.view_is (all_placed c.self.inside.types c.self.inside.programs c.self.inside.entries.items c.self.invariant.admitted) in
      let counted : c.self.inside.bytes ≡ bytes c.args.self.now = c.self.invariant.counted ∙ ap bytes c.self.view_is in
      let types : c.self.inside.types ≡ c.args.self.now.types = ap (λ (d : Declarations). d.types) c.self.view_is in
      let size : c.round_up.result ≡ padded_size c.args.self.now.types e = c.round_up.ensures ∙ ap (round_up 4) (c.size_of.ensures.value ∙ ap (λ (ts : List TypeDecl). size_of ts c.args.of) types) in
      let more : bytes (declared_as c.args.self.now scope name (tag c.args.of)) ≡ bytes c.args.self.now + padded_size c.args.self.now.types e = bytes_more c.args.self.now e placed h in
      rw (counted, size, more) refl;
}
