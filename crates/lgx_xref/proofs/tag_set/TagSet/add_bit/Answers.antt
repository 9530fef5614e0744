-- The tag that has the bit is added.
use Rattle.std.proofs.Common.{◌++◌, ◌∷◌, [], sym, subst}
use Rattle.std.proofs.lemmas.Result.{on_ok_weaker}
use Rattle.lgx_xref.specs.TagSets.{AreTagsOf}
use Rattle.lgx_xref.proofs.Tagged.{tag_added}
use Rattle.lgx_xref.proofs.tag_set.TagSet.add_bit.Goals as goal

pub returns-in-Some : goal.returns-in-Some
returns-in-Some c =
    on_ok_weaker c.add.result
    (λ added before all. subst (λ tags. AreTagsOf c.args.spans.now (before ++ c.args.bit ∷ []) tags) (sym added) (tag_added c.args.spans.now c.args.bit c.in-Some.tag before c.args.self.now c.in-Some.ensures all))
    c.add.ensures
