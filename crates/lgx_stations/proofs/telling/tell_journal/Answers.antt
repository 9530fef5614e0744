use Rattle.std.proofs.Common.{◌+◌, ◌<◌, List, length, drop, sym, subst, arith}
use Rattle.spec_machine.specs.declared.event.Event.{Event as Events}
use Rattle.spec_text.specs.JournalText.{joined, events_of}
use Rattle.spec_text.proofs.JoinedRuns.{runs_expand}
use Rattle.lgx_stations.specs.Telling.{IsAt}
use Rattle.lgx_stations.proofs.Asked.{none_published, publishes_on}
use Rattle.lgx_stations.proofs.Tells.{no_run, next_run, none_left, all_made, all_told}
use Rattle.lgx_stations.proofs.telling.tell_journal.Goals as goal

pub loop-i-init : goal.loop-i-init
loop-i-init g c = (
  subst (λ (es : List Events). IsAt g.I.JournalInput.project g.I.JournalInput.journal c.args.reported.now c.args.board.now es) (sym (runs_expand c.args.journal.now.events)) c.requires,
  none_published (λ k. g.G.Gate.asked c.args.gate.now c.args.lane k) (length c.args.board.now) (length c.args.board.now) (omega arith),
)

pub tell_run-requires : goal.tell_run-requires
tell_run-requires g c =
    let runs = joined c.args.journal.now.events in
    let below : c.loop-i.i < length runs = omega arith in (
      events_of (drop (c.loop-i.i + 1) runs),
      subst (λ (es : List Events). IsAt g.I.JournalInput.project g.I.JournalInput.journal c.loop-i.reported c.loop-i.board es)
          (next_run runs c.loop-i.i c.event_at-event.result.now c.count_at-count.result below (c.event_at-event.ensures no_run) (c.count_at-count.ensures no_run)) c.loop-i.invariant.0,
    )

pub loop-i-preserved : goal.loop-i-preserved
loop-i-preserved g c =
    let runs = joined c.args.journal.now.events in
    let below : c.loop-i.i < length runs = omega arith in (
      c.in_ok-tell_run.ensures.at (events_of (drop (c.loop-i.i + 1) runs))
          (subst (λ (es : List Events). IsAt g.I.JournalInput.project g.I.JournalInput.journal c.loop-i.reported c.loop-i.board es)
          (next_run runs c.loop-i.i c.event_at-event.result.now c.count_at-count.result below (c.event_at-event.ensures no_run) (c.count_at-count.ensures no_run)) c.loop-i.invariant.0),
      publishes_on (λ k. g.G.Gate.asked c.args.gate.now c.args.lane k) (length c.args.board.now) (length c.loop-i.board) (length c.tell_run.new.board) c.loop-i.invariant.1 c.in_ok-tell_run.ensures.publishes,
    )

pub returns-in_err-tell_run-clause-publishes : goal.returns-in_err-tell_run-clause-publishes
returns-in_err-tell_run-clause-publishes g c =
    publishes_on (λ k. g.G.Gate.asked c.args.gate.now c.args.lane k) (length c.args.board.now) (length c.loop-i.board) (length c.tell_run.new.board) c.loop-i.invariant.1 c.in_err-tell_run.ensures.publishes

pub returns-clause-records : goal.returns-clause-records
returns-clause-records g c =
    all_made g.I.JournalInput.project g.I.JournalInput.journal c.loop-i.reported c.loop-i.board
    (subst (λ (es : List Events). IsAt g.I.JournalInput.project g.I.JournalInput.journal c.loop-i.reported c.loop-i.board es) (none_left (joined c.args.journal.now.events) c.loop-i.i (omega arith)) c.loop-i.invariant.0)

pub returns-clause-told : goal.returns-clause-told
returns-clause-told g c =
    all_told g.I.JournalInput.project g.I.JournalInput.journal c.loop-i.reported c.loop-i.board
    (subst (λ (es : List Events). IsAt g.I.JournalInput.project g.I.JournalInput.journal c.loop-i.reported c.loop-i.board es) (none_left (joined c.args.journal.now.events) c.loop-i.i (omega arith)) c.loop-i.invariant.0)
