use Rattle.std.proofs.Common.{◌∙◌, ◌≡◌, ap, get_or}
use Rattle.spec_language.specs.declared.types.TypeDecl.{TypeDecl}
use Rattle.std.proofs.lemmas.Option.{get_or_from_slice_get}
use Rattle.lgx_types.proofs.Found.{taken_is}
use Rattle.lgx_types.proofs.structures.Structures.is_taken.Goals as goal

pub returns : goal.returns
returns c = λ d got.
    let here : get_or c.as_slice.result.now c.args.i c.index-as_slice-i.result ≡ d = get_or_from_slice_get c.as_slice.result.now c.args.i d _ (rw (c.as_slice.ensures, c.self.view_is) got) in
    let own : (get_or c.as_slice.result.now c.args.i c.index-as_slice-i.result).name ≡ d.name = ap (λ (x : TypeDecl). x.name) here in
    let name : c.bytes-name.result.now ≡ d.name = c.bytes-name.ensures.bytes ∙ own in
    rw (c.is_taken_by.ensures, c.built_in.ensures, c.find.ensures.number, name, c.self.invariant, ← c.self.view_is) (taken_is c.self.inside.decls c.args.i d)
