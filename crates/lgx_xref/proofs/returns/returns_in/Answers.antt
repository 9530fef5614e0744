-- One instruction more, and all instructions.
use Rattle.std.proofs.Common.{◌++◌, ◌∷◌, [], length, map, take, sym, ap, ◌∙◌, subst}
use Rattle.std.proofs.lemmas.List.{length-replicate, take_all}
use Rattle.lgx_xref.specs.Returns.{AreReturnsIn}
use Rattle.lgx_xref.proofs.Returned.{none_returned, sites_more}
use Rattle.lgx_xref.proofs.returns.returns_in.Goals as goal

pub loop-site-init : goal.loop-site-init
loop-site-init c = record {
  same = ap (λ l. length l) c.in_ok-returns.ensures ∙ length-replicate c.args.routines [];
  returns = subst (AreReturnsIn c.args.spans.now []) (sym c.in_ok-returns.ensures) (none_returned c.args.spans.now c.args.routines);
}

pub loop-site-preserved : goal.loop-site-preserved
loop-site-preserved c =
    let before = map (λ s. s.ins) (take c.loop-site.site-index c.args.placed.now) in
    record {
      same = c.in_ok-add_returns.ensures.same ∙ c.loop-site.invariant.same;
      returns =
          subst (λ is. AreReturnsIn c.args.spans.now is c.add_returns.new.returns.items)
          (ap (λ i. before ++ i ∷ []) c.ins.ensures ∙ sites_more c.args.placed.now c.loop-site.site-index c.site-item.result c.loop-site-test.true c.site-item.is)
          (c.in_ok-add_returns.ensures.returns before c.loop-site.invariant.returns);
    }

pub returns : goal.returns
returns c = record {
  same = c.loop-site.invariant.same;
  returns =
      subst (λ sites. AreReturnsIn c.args.spans.now (map (λ s. s.ins) sites) c.loop-site.returns.items)
      (take_all c.loop-site.site-index c.args.placed.now c.loop-site-test.false) c.loop-site.invariant.returns;
}
