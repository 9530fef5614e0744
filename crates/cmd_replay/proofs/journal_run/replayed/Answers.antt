use Rattle.std.proofs.Common.{◌≡◌, ◌+◌, ◌<◌, ◌≤◌, ◌++◌, [], length, replicate, take, ap, ◌∙◌, subst, take_all, arith}
use Rattle.std.specs.Prelude.{slice_index_or}
use Rattle.spec_machine.specs.Report.{report_lines}
use Rattle.spec_text.specs.declared.script.EventRun.{EventRun}
use Rattle.spec_text.specs.JournalText.{joined, events_of}
use Rattle.spec_text.proofs.JoinedRuns.{runs_expand}
use Rattle.lgx_journal.specs.Runs.{seen_run}
use Rattle.lgx_watch.specs.Kept.{KeptLines, no_lines}
use Rattle.lgx_watch.proofs.Pushes.{keeps_the_first}
use Rattle.lgx_record.specs.Extends.{IsExtended, events_in}
use Rattle.lgx_record.proofs.FewLines.{events_have_few_lines}
use Rattle.lgx_record.proofs.Logs.{few-more-lost}
use Rattle.lgx_record.proofs.Extending.{and-then}
use Rattle.lgx_judge.proofs.Runs.{no_run, one_more_run, room_for_run}
use Rattle.cmd_replay.proofs.journal_run.replayed.Goals as goal

pub loop-i-init : goal.loop-i-init
loop-i-init c = record { more = record { run = c.in_ok-run.ensures; log = c.requires.empty } }

pub take-requires : goal.take-requires
take-requires c =
    let es = c.args.journal.now.events in
    let before = events_of (take c.loop-i.i (joined es)) in
    let below : c.loop-i.i < length (joined es) = omega arith in
    let more = c.loop-i.invariant.more in
    let spent : c.loop-i.run.controller.spent ≡ length before = more.run.controller.counted in
    let count : (seen_run c.run_at.result).count ≡ (slice_index_or (joined es) c.loop-i.i no_run).count = ap (λ (r : EventRun). r.count) (c.run_at.ensures no_run) in
    let room = room_for_run es c.loop-i.i no_run below c.requires.few in
    let few = events_have_few_lines c.args.project before more.run.controller.valid in
    let lost = ap (λ (k : KeptLines). k.lost) more.log in
    let all = few-more-lost no_lines (report_lines c.args.project before) in
    record {
      room = omega arith;
      lost = omega arith;
    }

pub loop-i-preserved : goal.loop-i-preserved
loop-i-preserved c =
    let es = c.args.journal.now.events in
    let below : c.loop-i.i < length (joined es) = omega arith in
    let before = events_of (take c.loop-i.i (joined es)) in
    let taken : before ++ events_in c.run_at.result ≡ events_of (take (c.loop-i.i + 1) (joined es)) =
    ap (λ (r : EventRun). before ++ replicate r.count r.event) (c.run_at.ensures no_run) ∙ one_more_run (joined es) c.loop-i.i no_run below in
    record {
      more =
          subst (IsExtended c.take.new.self no_lines c.take.new.log c.args.project []) taken
          (and-then c.loop-i.run c.take.new.self no_lines c.loop-i.log c.take.new.log c.args.project [] before (events_in c.run_at.result) c.loop-i.invariant.more c.in_ok-take.ensures.all);
    }

pub returns : goal.returns
returns c =
    let es = c.args.journal.now.events in
    let all : length (joined es) ≤ c.loop-i.i = omega arith in
    let more = subst (IsExtended c.loop-i.run no_lines c.loop-i.log c.args.project []) (ap events_of (take_all c.loop-i.i (joined es) all) ∙ runs_expand es) c.loop-i.invariant.more in
    record { run = more.run; log = more.log ∙ keeps_the_first (report_lines c.args.project es) }
