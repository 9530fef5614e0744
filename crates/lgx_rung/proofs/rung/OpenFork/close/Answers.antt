use Rattle.std.proofs.Common.{◌≡◌, ap, sym, subst, ◌∙◌, [], ◌∷◌, ◌++◌, IsTrue}
use Rattle.std.specs.List.{list_all}
use Rattle.lgx_rung.specs.Tree.{end, append, fork_of}
use Rattle.lgx_rung.specs.Text.{IsSourceRung, has_operands}
use Rattle.lgx_rung.specs.Elements.{tree_of}
use Rattle.lgx_rung.proofs.Trees.{IsSourceRung-fork, tree_of-fork, legs_operands-push}
use Rattle.lgx_rung.proofs.rung.OpenFork.close.Goals as goal

pub invariant_of-result : goal.invariant_of-result
invariant_of-result c =
    let leg_operands : IsTrue (has_operands c.args.last) = c.tell.ensures.operands in
    let legs_operands : IsTrue (list_all has_operands c.push.new.self.items) = subst (λ ts. IsTrue (list_all has_operands ts)) (sym c.in_ok-push.ensures.items) (legs_operands-push c.self.inside.legs.items c.args.last c.self.invariant leg_operands) in
    let before : tree_of c.before-2.inside.elements.items ≡ c.args.self.before = c.before-2.view_is ∙ ap (λ f. f.before) c.self.view_is in
    let legs : c.push.new.self.items ≡ c.args.self.legs ++ c.args.last ∷ [] = c.in_ok-push.ensures.items ∙ ap (λ f. f.legs ++ c.args.last ∷ []) c.self.view_is in
    subst IsSourceRung (sym (ap tree_of c.in_ok-push-2.ensures.items ∙ tree_of-fork c.before-2.inside.elements.items c.push.new.self.items))
    (IsSourceRung-fork (tree_of c.before-2.inside.elements.items) c.push.new.self.items c.before-2.invariant legs_operands (rw (before, legs) c.requires.nested))

pub returns : goal.returns
returns c =
    ap tree_of c.in_ok-push-2.ensures.items
    ∙ tree_of-fork c.before-2.inside.elements.items c.push.new.self.items
    ∙ ap (λ t. append t (fork_of c.push.new.self.items end)) (c.before-2.view_is ∙ ap (λ f. f.before) c.self.view_is)
    ∙ ap (λ ts. append c.args.self.before (fork_of ts end)) (c.in_ok-push.ensures.items ∙ ap (λ f. f.legs ++ c.args.last ∷ []) c.self.view_is)
