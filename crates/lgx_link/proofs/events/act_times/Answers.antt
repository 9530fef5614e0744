use Rattle.std.proofs.Common.{◌≡◌, ◌++◌, ℕ, List, replicate, sym, subst, append-nil, arith}
use Rattle.spec_machine.specs.declared.event.Event.{Event}
use Rattle.spec_machine.specs.declared.event.Event.TheVariants.{Act}
use Rattle.lgx_record.specs.Records.{Records, RecordsMore}
use Rattle.lgx_judge.proofs.Runs.{one_more}
use Rattle.lgx_link.proofs.events.act_times.Goals as goal

pub apply-requires : goal.apply-requires
apply-requires c =
    let few = c.requires in
    let spent = c.loop.invariant.spent in
    let left = c.loop-test.true in
    omega (arith, few, spent, left)

pub loop-init : goal.loop-init
loop-init c = record {
  spent = omega arith;
  records = λ project events h. subst (λ (es : List Event). Records c.args.recording.now project es) (sym (append-nil events)) h;
}

pub loop-preserved : goal.loop-preserved
loop-preserved c =
    let e : Event = Act c.args.lane c.args.action.now in
    let more = c.in_ok-apply.ensures.counts.spent in
    let spent = c.loop.invariant.spent in
    record {
      spent = omega (arith, more, spent);
      records = λ project events h.
          subst (λ (es : List Event). Records c.apply.new.self project es) (one_more events e c.loop.counter)
          (c.in_ok-apply.ensures.records project (events ++ replicate c.loop.counter e) (c.loop.invariant.records project events h));
    }

pub returns-clause-records : goal.returns-clause-records
returns-clause-records c =
    let all : c.loop.counter ≡ c.args.count = omega arith in
    subst (λ (n : ℕ). RecordsMore c.args.recording.now c.loop.recording (replicate n (Act c.args.lane c.args.action.now))) all c.loop.invariant.records

pub returns-clause-spent : goal.returns-clause-spent
returns-clause-spent c =
    let all : c.loop.counter ≡ c.args.count = omega arith in
    let spent = c.loop.invariant.spent in
    omega (arith, spent, all)
