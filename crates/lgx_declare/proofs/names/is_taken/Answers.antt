use Rattle.std.proofs.Common.{◌≡◌, ap, sym, ◌∙◌, is_some, position}
use Rattle.std.proofs.lemmas.Iterator.Adapters.{position_from-zero}
use Rattle.lgx_num.specs.Name.{same}
use Rattle.spec_base.proofs.Lists.{any_some}
use Rattle.lgx_declare.proofs.names.is_taken.Goals as goal

pub returns : goal.returns
returns c =
    let named : c.find.result ≡ position (λ earlier. same earlier c.args.name.now) c.args.index.now = rw (sym c.bytes.ensures.bytes) c.find.ensures.number in
    c.is_some.ensures ∙ ap is_some (named ∙ position_from-zero (λ earlier. same earlier c.args.name.now) c.args.index.now) ∙ sym (any_some (λ earlier. same earlier c.args.name.now) c.args.index.now 0)
