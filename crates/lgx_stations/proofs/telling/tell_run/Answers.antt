use Rattle.std.proofs.Common.{rules, ◌≡◌, ◌+◌, ◌-◌, List, ◌++◌, length, replicate, sym, subst, arith}
use Rattle.spec_machine.specs.declared.event.Event.{Event as Events}
use Rattle.lgx_stations.specs.Telling.{IsAt}
use Rattle.lgx_stations.proofs.Asked.{none_published, publishes_on}
use Rattle.lgx_stations.proofs.Tells.{one_less}
use Rattle.lgx_stations.proofs.telling.tell_run.Goals as goal

pub tell_event-requires : goal.tell_event-requires
tell_event-requires g c =
    let some : (left : List Events) × IsAt g.I.JournalInput.project g.I.JournalInput.journal c.args.reported.now c.args.board.now (replicate c.args.count c.args.event.now ++ left) = search rules in
    let e = c.args.event.now in (
      replicate (c.args.count - (c.loop.counter + 1)) e ++ some.0,
      subst (λ (es : List Events). IsAt g.I.JournalInput.project g.I.JournalInput.journal c.loop.reported c.loop.board es) (one_less c.args.count c.loop.counter e some.0 (omega arith)) (c.loop.invariant.0 some.0 some.1),
    )

pub loop-init : goal.loop-init
loop-init g c = (
  (λ left h. let none : c.args.count - 0 ≡ c.args.count = omega arith in
      subst (λ n. IsAt g.I.JournalInput.project g.I.JournalInput.journal c.args.reported.now c.args.board.now (replicate n c.args.event.now ++ left)) (sym none) h),
  none_published (λ k. g.G.Gate.asked c.args.gate.now c.args.lane k) (length c.args.board.now) (length c.args.board.now) (omega arith),
)

pub loop-preserved : goal.loop-preserved
loop-preserved g c = (
  (λ left h.
      let e = c.args.event.now in
      let rest = replicate (c.args.count - (c.loop.counter + 1)) e ++ left in
      c.in_ok-tell_event.ensures.at rest (subst (λ (es : List Events). IsAt g.I.JournalInput.project g.I.JournalInput.journal c.loop.reported c.loop.board es) (one_less c.args.count c.loop.counter e left (omega arith)) (c.loop.invariant.0 left h))),
  publishes_on (λ k. g.G.Gate.asked c.args.gate.now c.args.lane k) (length c.args.board.now) (length c.loop.board) (length c.tell_event.new.board) c.loop.invariant.1 c.in_ok-tell_event.ensures.publishes,
)

pub returns-in_err-tell_event-clause-publishes : goal.returns-in_err-tell_event-clause-publishes
returns-in_err-tell_event-clause-publishes g c =
    publishes_on (λ k. g.G.Gate.asked c.args.gate.now c.args.lane k) (length c.args.board.now) (length c.loop.board) (length c.tell_event.new.board) c.loop.invariant.1 c.in_err-tell_event.ensures.publishes
