use Rattle.std.proofs.Common.{◌≡◌, ◌+◌, ◌-◌, ◌++◌, List, replicate, refl, sym, ap, ◌∙◌, subst, append_assoc, append-nil, arith}
use Rattle.std.proofs.lemmas.List.{replicate-append-replicate}
use Rattle.spec_machine.specs.declared.event.Event.{Event}
use Rattle.spec_machine.specs.declared.event.Event.TheVariants.{Cpu}
use Rattle.lgx_core.specs.Represents.{StandsFor}
use Rattle.lgx_cover.proofs.Idle.{covers_still}
use Rattle.lgx_cover.proofs.coverage.Coverage.rest.Goals as goal

pub loop-left-init : goal.loop-left-init
loop-left-init c = record {
  within = omega arith;
  spent = omega arith;
  tables = refl;
  stands = λ project events h.
      let none : 0 ≡ c.args.count - c.args.count = omega arith in
      subst (λ n. StandsFor project (events ++ replicate n Cpu) c.args.self.now.controller) none (subst (λ (es : List Event). StandsFor project es c.args.self.now.controller) (sym (append-nil events)) h);
}

pub loop-left-preserved : goal.loop-left-preserved
loop-left-preserved c =
    let made = c.stretch-left.result.steps in
    let most = c.stretch-left.ensures.most in
    let more = c.stretch-left.ensures.spent in
    let within = c.loop-left.invariant.within in
    let spent = c.loop-left.invariant.spent in
    let done = c.args.count - c.loop-left.left in
    let next : done + made ≡ c.args.count - (c.loop-left.left - made) = omega arith in
    record {
      within = omega arith;
      spent = omega arith;
      tables = c.loop-left.invariant.tables;
      stands = λ project events h.
          let before = events ++ replicate done Cpu in
          let all : before ++ replicate made Cpu ≡ events ++ replicate (c.args.count - (c.loop-left.left - made)) Cpu =
          append_assoc events (replicate done Cpu) (replicate made Cpu) ∙ ap (λ (es : List Event). events ++ es) (replicate-append-replicate done made Cpu ∙ ap (λ n. replicate n Cpu) next)
          in
          subst (λ (es : List Event). StandsFor project es c.stretch-left.new.self) all (c.stretch-left.ensures.runs project before (c.loop-left.invariant.stands project events h)).stands;
    }

pub returns : goal.returns
returns c = λ project events h none.
    let all : c.args.count - c.loop-left.left ≡ c.args.count = omega arith in
    let stands = subst (λ n. StandsFor project (events ++ replicate n Cpu) c.loop-left.self.controller) all (c.loop-left.invariant.stands project events h.controller) in
    covers_still c.args.self.now c.loop-left.self project events c.args.count h none stands c.loop-left.invariant.tables
