use Rattle.std.proofs.Common.{◌≡◌, ℕ, ◌+◌, ◌++◌, ◌∷◌, [], List, length-append, replicate, subst, sym, ap, ◌∙◌, append_assoc, arith}
use Rattle.std.proofs.lemmas.List.{length-replicate}
use Rattle.spec_machine.specs.declared.event.Event.{Event}
use Rattle.lgx_record.specs.IsRunOf.{IsRunOf}
use Rattle.lgx_live.specs.Console.{Says}
use Rattle.lgx_live.specs.Output.{text_with}
use Rattle.lgx_live.proofs.Saying.{done}
use Rattle.lgx_live.proofs.Texts.{once_more}
use Rattle.lgx_live.proofs.Runs.{text_of_event, run_stops, run_more, run_cut}
use Rattle.lgx_live.proofs.turns.take_run.Goals as goal

pub take-requires : goal.take-requires
take-requires g c =
    let some = c.loop.invariant.some in
    let e = c.args.run.now.event in
    let n = c.loop.counter in
    let size = length-append some.1 (replicate n e) in
    let many = length-replicate n e in
    (some.0, some.1 ++ replicate n e, c.loop.invariant.follows some.0 some.1 some.2, omega (arith, some.3, size, many, c.loop-test.true))

pub returns-in-Err-clause-says : goal.returns-in-Err-clause-says
returns-in-Err-clause-says g c = λ project events h.
    run_stops _ _ project events c.args.run.now.event c.args.run.now.count c.loop.counter c.loop-test.true (c.loop.invariant.says project events h)

pub returns-in-Err-put_log-clause-says : goal.returns-in-Err-put_log-clause-says
returns-in-Err-put_log-clause-says g c = λ project events h.
    let so_far = events ++ replicate c.loop.counter c.args.run.now.event in
    let follows = c.loop.invariant.follows project events h in
    run_cut _ _ _ _ project events c.args.run.now.event c.args.run.now.count c.loop.counter _ c.loop-test.true (c.loop.invariant.says project events h)
    (text_of_event project so_far c.args.run.now.event c.names.result.now c.take.new.log (c.names.ensures project (so_far ++ c.args.run.now.event ∷ []) (c.in-Ok.ensures.follows project so_far follows)) (c.in-Ok.ensures.lines project so_far follows))
    c.in-Err-put_log.ensures

pub loop-preserved : goal.loop-preserved
loop-preserved g c =
    let e = c.args.run.now.event in
    record {
      some = c.loop.invariant.some;
      follows = λ project events h.
          let so_far = events ++ replicate c.loop.counter e in
          let joined : so_far ++ e ∷ [] ≡ events ++ replicate (c.loop.counter + 1) e = append_assoc events (replicate c.loop.counter e) (e ∷ []) ∙ ap (λ (x : List Event). events ++ x) (sym (once_more e c.loop.counter)) in
          subst (λ (x : List Event). IsRunOf c.take.new.self.run project x) joined (c.in-Ok.ensures.follows project so_far (c.loop.invariant.follows project events h));
      says = λ project events h.
          let so_far = events ++ replicate c.loop.counter e in
          let follows = c.loop.invariant.follows project events h in
          run_more _ _ _ project events e c.loop.counter _ (c.loop.invariant.says project events h)
          (text_of_event project so_far e c.names.result.now c.take.new.log (c.names.ensures project (so_far ++ e ∷ []) (c.in-Ok.ensures.follows project so_far follows)) (c.in-Ok.ensures.lines project so_far follows))
          c.in-Ok-put_log.ensures;
    }

pub returns-clause-says : goal.returns-clause-says
returns-clause-says g c = λ project events h.
    let all : c.loop.counter ≡ c.args.run.now.count = omega arith in
    subst (λ (n : ℕ). Says (g.C.Console.seen c.args.console.now) (g.C.Console.seen c.loop.console) (text_with project events (replicate n c.args.run.now.event)) done) all (c.loop.invariant.says project events h)

pub returns-clause-follows : goal.returns-clause-follows
returns-clause-follows g c = λ project events h.
    let all : c.loop.counter ≡ c.args.run.now.count = omega arith in
    subst (λ (n : ℕ). IsRunOf c.loop.follow.run project (events ++ replicate n c.args.run.now.event)) all (c.loop.invariant.follows project events h)
