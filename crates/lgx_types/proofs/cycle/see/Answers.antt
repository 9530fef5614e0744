use Rattle.std.proofs.Common.{◌≡◌, true, sym, subst}
use Rattle.std.proofs.lemmas.Result.{IfOk-weaker}
use Rattle.spec_language.specs.declared.types.Base.{Base}
use Rattle.spec_language.specs.TypeFaults.{among}
use Rattle.lgx_types.specs.Sizing.{number_of}
use Rattle.lgx_types.proofs.Seen.{see_old, own_there, not_user}
use Rattle.lgx_types.proofs.cycle.see.Goals as goal

pub returns-in-User-clause-search : goal.returns-in-User-clause-search
returns-in-User-clause-search c = IfOk-weaker c.see_structure.result _ _ (λ u h types i j s r. h types i j s (r c.in-User.x (subst (λ (b : Base). among (number_of b) c.in-User.x ≡ true) (sym c.in-User.is) (own_there c.in-User.x)))) c.see_structure.ensures.search

pub returns-in-User-clause-own : goal.returns-in-User-clause-own
returns-in-User-clause-own c = IfOk-weaker c.see_structure.result _ _ (λ u h y p. see_old c.see_structure.new.seen c.in-User.x h y (subst (λ (b : Base). among (number_of b) y ≡ true) c.in-User.is p)) c.see_structure.ensures.own

pub returns-in_default-clause-own : goal.returns-in_default-clause-own
returns-in_default-clause-own c = λ y p. absurd (not_user c.args.base y c.in_default.not-User p)
