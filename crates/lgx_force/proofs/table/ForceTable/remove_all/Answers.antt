-- No word has a force any more.
use Rattle.std.proofs.Common.{Ok, sym, ◌∙◌, subst}
use Rattle.spec_tables.specs.Forces.{Forces, remove_all}
use Rattle.spec_tables.proofs.StateLists.{none_alone}
use Rattle.lgx_force.specs.Seen.{AnswersForce}
use Rattle.lgx_force.proofs.Words.{remove-ok}
use Rattle.lgx_force.proofs.table.ForceTable.remove_all.Goals as goal

pub returns-clause-exact : goal.returns-clause-exact
returns-clause-exact c =
    let cleared = c.fill.ensures.items (none_alone _ (λ x h. h)) in
    subst (λ (f : Forces). AnswersForce (remove_all c.args.self.now) c.args.self.now f (Ok tt)) (sym c.disable.ensures.exact)
    (remove-ok c.self.inside.words.items _ _ c.self.inside.enabled c.args.self.now (λ z. c.if-self-eq0.false (c.self.invariant ∙ z)) cleared c.self.inside.words.ok.0 c.self.view_is)
