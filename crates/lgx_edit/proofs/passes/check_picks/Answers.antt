-- One rung more is checked.
use Rattle.std.proofs.Common.{◌≡◌, ◌+◌, ◌++◌, [], ◌∷◌, List, length, Ok, Err, ap, sym, subst, ◌∙◌}
use Rattle.std.specs.Global.{Vec}
use Rattle.std.proofs.lemmas.List.{length_push}
use Rattle.std.proofs.lemmas.Result.{err_from_is_err_and}
use Rattle.std.proofs.lemmas.Iterator.Adapters.{YieldsList-from_vec}
use Rattle.std.proofs.lemmas.Iterator.Consumers.{YieldsList-turn}
use Rattle.lgx_check.specs.Answers.{AnswersAs}
use Rattle.lgx_check.specs.Progress.{Checks, checked_now}
use Rattle.lgx_edit.specs.Shared.{RungPair, sources, checkeds}
use Rattle.lgx_edit.specs.Picks.{pick_source, pick_sources}
use Rattle.lgx_edit.proofs.Passing.{one_checked, one_refused, as_many, sources_more}
use Rattle.lgx_edit.proofs.passes.check_picks.Goals as goal

pub returns-in_err-rung-clause-answer : goal.returns-in_err-rung-clause-answer
returns-in_err-rung-clause-answer c =
    let picks = c.args.picks.items in
    let gives = c.into_iter-pick-iterator.ensures.into_iter_gives in
    let ys = c.loop-pick.yielded in
    let t = YieldsList-turn (YieldsList-from_vec {s = c.into_iter-pick-iterator.result} picks gives.0 (gives.1 ∙ c.args.picks.ok.0)) ys c.loop-pick.pick-iterator c.loop-pick.yielded_by c.next.result c.next.new.self c.in-Some.pick c.in-Some.is c.next.ensures.steps in
    let number : c.len-in-loop-pick.result ≡ length ys = c.len-in-loop-pick.ensures ∙ (c.loop-pick.rungs.ok.0 ∙ as_many c.loop-pick.rungs.items ys c.loop-pick.invariant.sources) in
    let e = err_from_is_err_and c.from_residual-in_err-rung.result c.from_residual-in_err-rung.ensures.1 in
    rw (e.1, e.2)
    (one_refused c.args.checker.now.scope picks (length ys) c.in-Some.pick (checkeds c.loop-pick.rungs.items) c.loop-pick.checker (λ (r : RungPair). r.checked) (λ (all : Vec RungPair). checkeds all.items) c.in_err-rung.field-0.0
    c.loop-pick.invariant.checks t.0 t.1
    (subst (λ n. AnswersAs (λ (r : RungPair). r.checked) (checked_now n (pick_source c.in-Some.pick) c.loop-pick.checker) (Err c.in_err-rung.field-0.0)) number c.in_err-rung.ensures.answer))

pub loop-pick-preserved : goal.loop-pick-preserved
loop-pick-preserved c =
    let picks = c.args.picks.items in
    let gives = c.into_iter-pick-iterator.ensures.into_iter_gives in
    let ys = c.loop-pick.yielded in
    let t = YieldsList-turn (YieldsList-from_vec {s = c.into_iter-pick-iterator.result} picks gives.0 (gives.1 ∙ c.args.picks.ok.0)) ys c.loop-pick.pick-iterator c.loop-pick.yielded_by c.next.result c.next.new.self c.in-Some.pick c.in-Some.is c.next.ensures.steps in
    let rungs = c.loop-pick.rungs.items in
    let r = c.in_ok-rung.rung in
    let p = c.in-Some.pick in
    let number : c.len-in-loop-pick.result ≡ length ys = c.len-in-loop-pick.ensures ∙ (c.loop-pick.rungs.ok.0 ∙ as_many rungs ys c.loop-pick.invariant.sources) in
    let answer : checked_now (length ys) (pick_source p) c.loop-pick.checker ≡ Ok r.checked = subst (λ n. checked_now n (pick_source p) c.loop-pick.checker ≡ Ok r.checked) number c.in_ok-rung.ensures.answer in
    let checks : Checks c.args.checker.now.scope (pick_sources picks) (length ys + 1) (checkeds (rungs ++ r ∷ [])) c.check_pick.new.checker =
    one_checked c.args.checker.now.scope picks (length ys) p rungs r c.loop-pick.checker c.check_pick.new.checker c.loop-pick.invariant.checks t.0 t.1 answer c.in_ok-rung.ensures.after in
    record {
      checks = subst (λ n. Checks c.args.checker.now.scope (pick_sources picks) n (checkeds c.push.new.self.items) c.check_pick.new.checker) (sym (length_push ys p))
          (subst (λ (all : List RungPair). Checks c.args.checker.now.scope (pick_sources picks) (length ys + 1) (checkeds all) c.check_pick.new.checker) (sym c.in_ok-push.ensures.items) checks);
      sources = ap sources c.in_ok-push.ensures.items ∙ sources_more rungs ys r p c.loop-pick.invariant.sources c.in_ok-rung.ensures.source;
    }
