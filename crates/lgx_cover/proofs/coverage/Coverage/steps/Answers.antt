use Rattle.std.proofs.Common.{◌≡◌, ◌+◌, ◌-◌, ◌++◌, List, [], ◌∷◌, replicate, Ok, sym, ap, ◌∙◌, subst, append_assoc, append-nil, arith}
use Rattle.std.proofs.lemmas.List.{replicate-append-replicate}
use Rattle.spec_machine.specs.declared.event.Event.{Event}
use Rattle.spec_machine.specs.declared.event.Event.TheVariants.{Cpu}
use Rattle.lgx_cover.specs.Covers.{Covers}
use Rattle.lgx_judge.proofs.Runs.{one_more}
use Rattle.lgx_cover.proofs.Idle.{none_up_still}
use Rattle.lgx_cover.proofs.coverage.Coverage.steps.Goals as goal

pub loop-left-init : goal.loop-left-init
loop-left-init c = record {
  within = omega arith;
  spent = omega arith;
  covers = λ project events h.
      let none : 0 ≡ c.args.count - c.args.count = omega arith in
      subst (λ n. Covers c.args.self.now project (events ++ replicate n Cpu)) none (subst (λ (es : List Event). Covers c.args.self.now project es) (sym (append-nil events)) h);
}

pub step-requires : goal.step-requires
step-requires c =
    let i = c.requires.coverage in
    let spent = c.loop-left.invariant.spent in
    let room = c.requires.room in
    record {
      coverage = record {
        project = i.project;
        events = i.events ++ replicate (c.args.count - c.loop-left.left) Cpu;
        covers = c.loop-left.invariant.covers i.project i.events i.covers;
      };
      room = omega arith;
    }

pub loop-left-preserved : goal.loop-left-preserved
loop-left-preserved c =
    let within = c.loop-left.invariant.within in
    let spent = c.loop-left.invariant.spent in
    let more = c.in_ok-what.ensures.spent in
    let done = c.args.count - c.loop-left.left in
    let next : done + 1 ≡ c.args.count - (c.loop-left.left - 1) = omega arith in
    record {
      within = omega arith;
      spent = omega arith;
      covers = λ project events h.
          let before = events ++ replicate done Cpu in
          let all : before ++ Cpu ∷ [] ≡ events ++ replicate (c.args.count - (c.loop-left.left - 1)) Cpu = one_more events Cpu done ∙ ap (λ n. events ++ replicate n Cpu) next in
          subst (λ (es : List Event). Covers c.step.new.self project es) all (c.in_ok-what.ensures.covers project before (c.loop-left.invariant.covers project events h));
    }

pub returns-in-Idle : goal.returns-in-Idle
returns-in-Idle c = λ project events h.
    let within = c.loop-left.invariant.within in
    let done = c.args.count - c.loop-left.left in
    let left = c.loop-left.left - 1 in
    let before = events ++ replicate done Cpu in
    let now = c.loop-left.invariant.covers project events h in
    let after = c.in_ok-what.ensures.covers project before now in
    let none = none_up_still project before 1 (c.in_ok-what.ensures.idle project before now (ap (λ w. Ok w) c.in-Idle.is)) in
    let rest : Covers c.rest.new.self project ((before ++ Cpu ∷ []) ++ replicate left Cpu) = c.rest.ensures project (before ++ Cpu ∷ []) after none in
    let sum : (done + 1) + left ≡ c.args.count = omega arith in
    let all : (before ++ Cpu ∷ []) ++ replicate left Cpu ≡ events ++ replicate c.args.count Cpu =
    ap (λ (es : List Event). es ++ replicate left Cpu) (one_more events Cpu done)
    ∙ (append_assoc events (replicate (done + 1) Cpu) (replicate left Cpu) ∙ ap (λ (es : List Event). events ++ es) (replicate-append-replicate (done + 1) left Cpu ∙ ap (λ n. replicate n Cpu) sum))
    in
    subst (λ (es : List Event). Covers c.rest.new.self project es) all rest

pub returns : goal.returns
returns c = λ project events h.
    let all : c.args.count - c.loop-left.left ≡ c.args.count = omega arith in
    subst (λ n. Covers c.loop-left.self project (events ++ replicate n Cpu)) all (c.loop-left.invariant.covers project events h)
