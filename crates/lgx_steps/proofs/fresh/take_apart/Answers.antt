-- The parts are the project's.
use Rattle.std.proofs.Common.{sym, subst}
use Rattle.spec_machine.specs.Project.{Project}
use Rattle.lgx_steps.specs.declared.fresh.OtherParts.{OtherParts}
use Rattle.lgx_steps.specs.declared.fresh.Opened.{Opened}
use Rattle.lgx_steps.specs.Fresh.{IsTakenApart}
use Rattle.lgx_steps.proofs.Making.{opened}
use Rattle.lgx_steps.proofs.fresh.take_apart.Goals as goal

pub returns : goal.returns
returns c =
    let o : Opened = record { texts = c.take_parts-texts.result.0; kept = c.in_ok-boxed.boxed } in
    opened c.args.project o
    (subst (λ (k : OtherParts). IsTakenApart c.args.project c.take_parts-texts.result.0.items k) (sym c.in_ok-boxed.ensures.ok)
    (subst (λ (q : Project). IsTakenApart q c.take_parts-texts.result.0.items c.take_parts-texts.result.1) c.into_parts.ensures c.take_parts-texts.ensures))
