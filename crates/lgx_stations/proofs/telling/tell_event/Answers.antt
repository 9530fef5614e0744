use Rattle.std.proofs.Common.{rules, ◌≡◌, false, List, [], ◌∷◌, ◌++◌, length, refl, ap, subst, arith}
use Rattle.spec_machine.specs.declared.event.Event.{Event as Events}
use Rattle.spec_machine.specs.declared.event.Event.TheVariants.{Cpu, Tick, Act}
use Rattle.spec_machine.specs.Events.{is_tick}
use Rattle.spec_board.specs.declared.snapshot.Snapshot.{Snapshot}
use Rattle.lgx_stations.specs.Reports.{Reports}
use Rattle.lgx_stations.specs.Telling.{IsAt}
use Rattle.lgx_stations.proofs.Asked.{none_published, publish_asked}
use Rattle.lgx_stations.proofs.Tells.{has_room, may_publish, after_tick, after_other}
use Rattle.lgx_stations.proofs.telling.tell_event.Goals as goal

no_tick : (e : Events) → (e ≡ Tick → ⊥) → is_tick e ≡ false
no_tick Cpu h = refl
no_tick Tick h = absurd (h refl)
no_tick (Act lane a) h = refl

pub take-requires : goal.take-requires
take-requires g c =
    let some : (left : List Events) × IsAt g.I.JournalInput.project g.I.JournalInput.journal c.args.reported.now c.args.board.now (c.args.event.now ∷ left) = search rules in
    (g.I.JournalInput.project, some.1.made, some.1.recorded, has_room g.I.JournalInput.project g.I.JournalInput.journal c.args.reported.now c.args.board.now c.args.event.now some.0 some.1)

pub publish-requires : goal.publish-requires
publish-requires g c =
    let some : (left : List Events) × IsAt g.I.JournalInput.project g.I.JournalInput.journal c.args.reported.now c.args.board.now (c.args.event.now ∷ left) = search rules in
    let h = subst (λ (e : Events). IsAt g.I.JournalInput.project g.I.JournalInput.journal c.args.reported.now c.args.board.now (e ∷ some.0)) c.in-Tick.is some.1 in
    let r = subst (λ (e : Events). Reports c.take.new.self g.I.JournalInput.project (h.made ++ e ∷ [])) c.in-Tick.is (c.in_ok-take.ensures g.I.JournalInput.project h.made h.recorded) in
    may_publish g.I.JournalInput.project g.I.JournalInput.journal c.args.reported.now c.take.new.self c.args.board.now some.0 h c.snapshot-snapshot.result (c.snapshot-snapshot.ensures g.I.JournalInput.project (h.made ++ Tick ∷ []) r)

pub returns-in_ok-publish-clause-at : goal.returns-in_ok-publish-clause-at
returns-in_ok-publish-clause-at g c = λ left now.
    let h = subst (λ (e : Events). IsAt g.I.JournalInput.project g.I.JournalInput.journal c.args.reported.now c.args.board.now (e ∷ left)) c.in-Tick.is now in
    let r = subst (λ (e : Events). Reports c.take.new.self g.I.JournalInput.project (h.made ++ e ∷ [])) c.in-Tick.is (c.in_ok-take.ensures g.I.JournalInput.project h.made h.recorded) in
    after_tick g.I.JournalInput.project g.I.JournalInput.journal c.args.reported.now c.take.new.self c.args.board.now left h c.snapshot-snapshot.result c.publish.new.self (c.snapshot-snapshot.ensures g.I.JournalInput.project (h.made ++ Tick ∷ []) r) c.in_ok-publish.ensures.added r

pub returns-in_ok-publish-clause-publishes : goal.returns-in_ok-publish-clause-publishes
returns-in_ok-publish-clause-publishes g c =
    let some : (left : List Events) × IsAt g.I.JournalInput.project g.I.JournalInput.journal c.args.reported.now c.args.board.now (c.args.event.now ∷ left) = search rules in
    let h = subst (λ (e : Events). IsAt g.I.JournalInput.project g.I.JournalInput.journal c.args.reported.now c.args.board.now (e ∷ some.0)) c.in-Tick.is some.1 in
    let r = subst (λ (e : Events). Reports c.take.new.self g.I.JournalInput.project (h.made ++ e ∷ [])) c.in-Tick.is (c.in_ok-take.ensures g.I.JournalInput.project h.made h.recorded) in
    let is = c.snapshot-snapshot.ensures g.I.JournalInput.project (h.made ++ Tick ∷ []) r in
    publish_asked g.I.JournalInput.project g.I.JournalInput.journal c.args.reported.now c.args.board.now some.0 h c.snapshot-snapshot.result is c.publish.new.self c.in_ok-publish.ensures.added
    (λ k. g.G.Gate.asked c.args.gate.now c.args.lane k) c.saturating_sub.result c.saturating_sub.ensures c.before-in-Tick.ensures

pub returns-in_err-publish-clause-publishes : goal.returns-in_err-publish-clause-publishes
returns-in_err-publish-clause-publishes g c =
    let same = ap (λ (l : List Snapshot). length l) c.in_err-publish.ensures.unchanged in
    none_published (λ k. g.G.Gate.asked c.args.gate.now c.args.lane k) (length c.args.board.now) (length c.publish.new.self) (omega (arith, same))

pub returns-in_default-clause-at : goal.returns-in_default-clause-at
returns-in_default-clause-at g c = λ left now.
    after_other g.I.JournalInput.project g.I.JournalInput.journal c.args.reported.now c.take.new.self c.args.board.now left c.args.event.now now (no_tick c.args.event.now c.in_default.not-Tick)
    (c.in_ok-take.ensures g.I.JournalInput.project now.made now.recorded)
