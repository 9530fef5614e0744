use Rattle.std.proofs.Common.{◌∙◌, ap, subst, sym, Ok}
use Rattle.spec_language.specs.declared.tag.Found.{Found}
use Rattle.lgx_tags.specs.Chains.{found_at}
use Rattle.lgx_tags.specs.TextReading.{subscripts_of, IsInImage}
use Rattle.lgx_tags.proofs.ReadingBounds.{named_placed}
use Rattle.lgx_tags.proofs.SpelledForms.{spelled_whole}
use Rattle.lgx_tags.proofs.spelled.find_spelled.Goals as goal

pub find_from-requires-clause-placed : goal.find_from-requires-clause-placed
find_from-requires-clause-placed g c =
    let bytes = g.N.Names.bytes c.args.names.now in
    subst (λ (f : Found). IsInImage c.args.types.now bytes f) (sym c.found.ensures)
    (named_placed c.args.types.now bytes (found_at c.in_ok-spot.spot) (c.requires.lie c.split_hashed.result.0.now (found_at c.in_ok-spot.spot) c.in_ok-spot.ensures.named))

pub returns : goal.returns
returns g c =
    spelled_whole (subscripts_of c.args.subscripts) c.args.types.now (g.N.Names.named c.args.names.now) c.args.text.now c.split_hashed.result.0.now c.split_hashed.result.1.now c.found.result c.find_from.result c.split_hashed.ensures.tokens c.split_hashed.ensures.ended c.in_ok-spot.ensures.name (c.in_ok-spot.ensures.named ∙ sym (ap Ok c.found.ensures)) c.find_from.ensures.reads c.find_from.ensures.form
