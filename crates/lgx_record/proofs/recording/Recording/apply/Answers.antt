use Rattle.std.proofs.Common.{◌≡◌, ◌+◌, ◌≤◌, sym, ◌∙◌, subst, arith, eqb-true}
use Rattle.std.proofs.lemmas.Bool.{eqb-false}
use Rattle.std.proofs.lemmas.Result.{on_ok_weaker}
use Rattle.spec_base.specs.declared.limits.TheConstants.{MAX_EVENTS}
use Rattle.lgx_journal.specs.Runs.{seen_run}
use Rattle.lgx_record.specs.RecordingView.{RecordingView}
use Rattle.lgx_record.specs.Records.{RecordsMore, HasCounted, IsUnchanged}
use Rattle.lgx_record.specs.Extends.{events_in}
use Rattle.lgx_record.proofs.Extending.{records-none, counts-none, still-records, counted-still, on-err}
use Rattle.lgx_record.proofs.recording.Recording.apply.Goals as goal

pub returns-then-is_none-clause-records : goal.returns-then-is_none-clause-records
returns-then-is_none-clause-records c =
    records-none c.args.self.now (seen_run c.args.run).event (seen_run c.args.run).count (eqb-true (seen_run c.args.run).count 0 (sym c.is_none.ensures ∙ c.if-is_none.true))

pub returns-then-is_none-clause-counts : goal.returns-then-is_none-clause-counts
returns-then-is_none-clause-counts c =
    counts-none c.args.self.now (seen_run c.args.run).event (seen_run c.args.run).count (eqb-true (seen_run c.args.run).count 0 (sym c.is_none.ensures ∙ c.if-is_none.true))

pub take-requires : goal.take-requires
take-requires c = record {
  some = (let not_none = eqb-false (seen_run c.args.run).count 0 (sym c.is_none.ensures ∙ c.if-is_none.false) in omega (arith, not_none));
  room = subst (λ (v : RecordingView). v.controller.spent + (seen_run c.args.run).count ≤ MAX_EVENTS) (sym c.reserve.ensures.unchanged) c.requires.room;
  spare = (let one = c.in_ok-reserve.ensures.room in omega arith);
}

pub returns-clause-records : goal.returns-clause-records
returns-clause-records c =
    on_ok_weaker c.take.result
    (λ (more : RecordsMore c.reserve.new.self c.take.new.self (events_in c.args.run)). λ project events r. more project events (still-records c.args.self.now c.reserve.new.self project events c.reserve.ensures.unchanged r))
    c.take.ensures.records

pub returns-clause-counts : goal.returns-clause-counts
returns-clause-counts c =
    on_ok_weaker c.take.result
    (λ (more : HasCounted c.reserve.new.self c.take.new.self (events_in c.args.run)). counted-still c.args.self.now c.reserve.new.self c.take.new.self (events_in c.args.run) c.reserve.ensures.unchanged more)
    c.take.ensures.counts

pub returns-clause-unchanged : goal.returns-clause-unchanged
returns-clause-unchanged c =
    on-err c.take.result
    (λ (same : c.take.new.self ≡ c.reserve.new.self). subst (λ (v : RecordingView). IsUnchanged c.args.self.now v) (sym same) c.reserve.ensures.unchanged)
    c.take.ensures.unchanged

pub returns-clause-room : goal.returns-clause-room
returns-clause-room c =
    on-err c.take.result
    (λ (same : c.take.new.self ≡ c.reserve.new.self). subst (λ (v : RecordingView). c.args.self.now.journal.spare ≤ v.journal.spare) (sym same) c.reserve.ensures.kept)
    c.take.ensures.unchanged
