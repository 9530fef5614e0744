use Rattle.std.proofs.Common.{◌++◌, ◌∷◌, [], refl, sym, subst}
use Rattle.spec_machine.specs.declared.event.Event.{Event}
use Rattle.spec_machine.specs.Machine.{OfTick, OfAction}
use Rattle.lgx_cover.specs.declared.coverage.Coverage.{Coverage}
use Rattle.lgx_cover.specs.Covers.{Covers}
use Rattle.lgx_cover.proofs.Stepping.{covers_quiet}
use Rattle.lgx_cover.proofs.coverage.Coverage.apply.Goals as goal

pub returns-in-Tick : goal.returns-in-Tick
returns-in-Tick c = λ project events h.
    let d : Coverage = record { controller = c.tick.new.self; tables = c.args.self.now.tables } in
    subst (λ (e : Event). Covers d project (events ++ e ∷ [])) (sym c.in-Tick.is) (covers_quiet c.args.self.now d project events (OfTick c.tick.result) h c.tick.ensures.runs refl refl refl)

pub returns-in_ok-act-in-Act : goal.returns-in_ok-act-in-Act
returns-in_ok-act-in-Act c = λ project events h.
    let d : Coverage = record { controller = c.act.new.self; tables = c.args.self.now.tables } in
    let outcome = c.in_ok-act-in-Act.field-0 in
    subst (λ (e : Event). Covers d project (events ++ e ∷ [])) (sym c.in-Act.is) (covers_quiet c.args.self.now d project events (OfAction c.in-Act.lane c.in-Act.action outcome) h c.in_ok-act-in-Act.ensures.runs refl refl refl)
