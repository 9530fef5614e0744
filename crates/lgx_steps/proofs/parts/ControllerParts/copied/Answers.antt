use Rattle.std.proofs.Common.{Bool, true, false, refl, ap}
use Rattle.lgx_steps.specs.PartsView.{view_of}
use Rattle.spec_scan.specs.declared.bound.Effect.TheVariants as effect
use Rattle.spec_tables.specs.Tasks.{set_copy}
use Rattle.lgx_steps.proofs.AfterEffects.{by-effect}
use Rattle.lgx_steps.proofs.Regions.{at_most-copy}
use Rattle.lgx_steps.proofs.States.{later, with-table}
use Rattle.lgx_steps.proofs.parts.ControllerParts.copied.Goals as goal

pub returns-then-last-clause-gives : goal.returns-then-last-clause-gives
returns-then-last-clause-gives c = λ k s h.
    by-effect k _ _ s c.args.t c.args.n (effect.Copied c.args.last c.args.sync) (effect.Copied true c.args.sync) (ap (λ (b : Bool). effect.Copied b c.args.sync) c.if-last.true) (record {
      answers = refl;
      represents = later k _ (record s { table = set_copy c.args.t false s.table }) (with-table k (view_of c.args.self.now) s h c.set_copy.new.self (set_copy c.args.t false s.table) (c.set_copy.ensures.represents s.table h.table) c.set_copy.ensures.defs (at_most-copy k s.table c.args.t false h.sane.regions));
    })

pub returns-else-last-clause-gives : goal.returns-else-last-clause-gives
returns-else-last-clause-gives c = λ k s h.
    by-effect k _ _ s c.args.t c.args.n (effect.Copied c.args.last c.args.sync) (effect.Copied false c.args.sync) (ap (λ (b : Bool). effect.Copied b c.args.sync) c.if-last.false)
    (record { answers = c.plainly.ensures; represents = later k (view_of c.args.self.now) s h })
