use Rattle.std.proofs.Common.{ap, sym, subst, ◌∙◌}
use Rattle.lgx_rung.specs.Tree.{end, one, append}
use Rattle.lgx_rung.specs.Text.{IsSourceRung}
use Rattle.lgx_rung.specs.Elements.{tree_of}
use Rattle.lgx_rung.proofs.Trees.{IsSourceRung-one, tree_of-ins}
use Rattle.lgx_rung.proofs.rung.SourceRung.push.Goals as goal

pub invariant_of-self-2 : goal.invariant_of-self-2
invariant_of-self-2 c =
    subst IsSourceRung (sym (ap tree_of c.in_ok-push.ensures.items ∙ tree_of-ins c.self.inside.elements.items c.args.op c.args.texts))
    (IsSourceRung-one (tree_of c.self.inside.elements.items) c.args.op c.args.texts c.self.invariant c.tell.ensures)

pub returns-clause-added : goal.returns-clause-added
returns-clause-added c =
    ap tree_of c.in_ok-push.ensures.items
    ∙ tree_of-ins c.self.inside.elements.items c.args.op c.args.texts
    ∙ ap (λ t. append t (one (record { op = c.args.op; texts = c.args.texts }) end)) c.self.view_is
