-- After the action that was made.
use Rattle.std.proofs.Common.{◌++◌, ◌∷◌, [], refl, sym, subst}
use Rattle.std.proofs.lemmas.Result.{IfOk-weaker}
use Rattle.spec_machine.specs.declared.event.Event.TheVariants.{Act}
use Rattle.lgx_core.specs.Represents.{StandsFor}
use Rattle.lgx_walker.proofs.Seeing.{event_watched}
use Rattle.lgx_walker.proofs.valued.ValuedController.act.Goals as goal

pub returns-in-Ok-clause-watches : goal.returns-in-Ok-clause-watches
returns-in-Ok-clause-watches c =
    IfOk-weaker c.line.result _ _
    (λ o line p journal w. event_watched p journal (Act c.args.lane c.args.action.now) c.args.self.now c.line.new.self c.line.ensures.places (subst (StandsFor p (journal ++ Act c.args.lane c.args.action.now ∷ [])) (sym c.line.ensures.controller) (c.in-Ok.ensures.runs p journal w.stands_for).stands) w)
    c.line.ensures.line

pub returns-in-Ok-clause-line : goal.returns-in-Ok-clause-line
returns-in-Ok-clause-line c =
    IfOk-weaker c.line.result _ _
    (λ o line p journal w. line p journal (Act c.args.lane c.args.action.now) (event_watched p journal (Act c.args.lane c.args.action.now) c.args.self.now _ refl (c.in-Ok.ensures.runs p journal w.stands_for).stands w) (λ q. refl))
    c.line.ensures.line
