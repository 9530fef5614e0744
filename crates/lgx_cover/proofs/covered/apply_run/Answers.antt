use Rattle.std.proofs.Common.{ℕ, ◌≡◌, ◌++◌, List, length, length-append, replicate, subst, arith}
use Rattle.std.proofs.lemmas.List.{length-replicate}
use Rattle.spec_machine.specs.declared.event.Event.{Event}
use Rattle.lgx_cover.specs.Covers.{Covers}
use Rattle.lgx_judge.proofs.Runs.{one_more}
use Rattle.lgx_cover.proofs.covered.apply_run.Goals as goal

pub apply-requires : goal.apply-requires
apply-requires c =
    let i = c.requires.coverage in
    let now = c.loop.invariant.covers i.project i.events i.covers in
    let events = i.events ++ replicate c.loop.counter c.args.event.now in
    let spent : c.loop.coverage.controller.spent ≡ length events = now.controller.counted in
    let before : c.args.coverage.now.controller.spent ≡ length i.events = i.covers.controller.counted in
    record {
      coverage = record { project = i.project; events = events; covers = now };
      room = omega (arith, length-append i.events (replicate c.loop.counter c.args.event.now), length-replicate c.loop.counter c.args.event.now);
    }

pub loop-preserved : goal.loop-preserved
loop-preserved c = record {
  covers = λ project events h.
      let P : List Event → Type 0 = λ es. Covers c.apply.new.self project es in
      subst P (one_more events c.args.event.now c.loop.counter) (c.in_ok-apply.ensures project (events ++ replicate c.loop.counter c.args.event.now) (c.loop.invariant.covers project events h));
}

pub returns : goal.returns
returns c = λ project events h.
    let all : c.loop.counter ≡ c.args.count = omega arith in
    let P : ℕ → Type 0 = λ n. Covers c.loop.coverage project (events ++ replicate n c.args.event.now) in
    subst P all (c.loop.invariant.covers project events h)
