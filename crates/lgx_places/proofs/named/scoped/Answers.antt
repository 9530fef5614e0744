use Rattle.std.proofs.Common.{sym, ◌∙◌}
use Rattle.lgx_places.proofs.Scoped.{scoped_as, no_name}
use Rattle.lgx_places.proofs.named.scoped.Goals as goal

pub returns-then-is_name-clause-some : goal.returns-then-is_name-clause-some
returns-then-is_name-clause-some c =
    let r = c.in_ok-rest.ensures.cases in
    scoped_as c.args.text.now c.in_ok-rest.rest.now c.in_ok-name.name.now c.in_ok-name.after.now r.0 r.1 c.in_ok-name.ensures.whole c.in_ok-name.ensures.clean (sym c.is_name.ensures ∙ c.if-is_name.true)

pub returns-clause-none : goal.returns-clause-none
returns-clause-none c =
    let r = c.in_ok-rest.ensures.cases in
    no_name c.args.text.now c.in_ok-rest.rest.now c.in_ok-name.name.now c.in_ok-name.after.now r.0 r.1 c.in_ok-name.ensures.whole c.in_ok-name.ensures.clean (sym c.is_name.ensures ∙ c.if-is_name.false)
