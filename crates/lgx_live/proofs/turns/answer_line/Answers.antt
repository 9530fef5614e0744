use Rattle.std.proofs.Common.{◌≡◌, ◌+◌, ◌∙◌, List, length, Err, sym, ap, subst, refl, arith}
use Rattle.spec_machine.specs.declared.event.Event.{Event}
use Rattle.lgx_record.specs.IsRunOf.{IsRunOf}
use Rattle.lgx_live.specs.Session.{run_asked}
use Rattle.lgx_live.specs.Console.{Says}
use Rattle.lgx_live.specs.Output.{refusal_line}
use Rattle.lgx_live.proofs.Saying.{done, says_nothing, says_none}
use Rattle.lgx_live.proofs.Points.{skipped, refused, done_by, answer_skipped, answer_refused, answer_done, at_skipped, at_refused, at_done, if_done, anyway, code_is}
use Rattle.lgx_live.proofs.turns.answer_line.Goals as goal

pub returns-then-is_skipped : goal.returns-then-is_skipped
returns-then-is_skipped g c = record {
  says = λ project at h.
      let m = skipped at.events c.args.line.now (sym c.is_skipped.ensures ∙ c.if-is_skipped.true) in
      let a = g.C.Console.seen c.args.console.now in
      subst (λ t. Says a a t done) (sym (answer_skipped project at c.args.line.now m)) (says_nothing a);
  goes_on = λ project at h. at_skipped _ _ _ _ project at c.args.line.now (skipped at.events c.args.line.now (sym c.is_skipped.ensures ∙ c.if-is_skipped.true)) refl h;
}

pub take_run-requires : goal.take_run-requires
take_run-requires g c =
    let some = c.requires.some in
    (some.0, some.1.events, some.2.follows, omega (arith, some.2.events, c.in-Ok.ensures.room))

pub returns-in-Ok : goal.returns-in-Ok
returns-in-Ok g c =
    let line = c.args.line.now in
    let unskipped = sym c.is_skipped.ensures ∙ c.if-is_skipped.false in
    record {
      says = λ project at h.
          let m = done_by at.events line _ unskipped (c.in-Ok.ensures.run at.events h.events) in
          subst (λ t. Says (g.C.Console.seen c.args.console.now) (g.C.Console.seen c.take_run.new.console) t c.take_run.result) (sym (answer_done project at line _ m)) (c.take_run.ensures.says project at.events h.follows);
      goes_on = λ project at h.
          let m = done_by at.events line _ unskipped (c.in-Ok.ensures.run at.events h.events) in
          if_done c.take_run.result _ _ (λ f. at_done _ (IsRunOf c.take_run.new.follow.run) _ _ _ _ project at line _ m refl refl h f) (c.take_run.ensures.follows project at.events h.follows);
    }

pub returns-in-Err-Code : goal.returns-in-Err-Code
returns-in-Err-Code g c =
    let line = c.args.line.now in
    let code = c.in-Err-Code.code in
    let unskipped = sym c.is_skipped.ensures ∙ c.if-is_skipped.false in
    let is = λ (events : List Event) (h : c.args.pad.now.events ≡ length events). code_is c.in-Err-Code.field-0 code (λ code. run_asked events line ≡ Err code) c.in-Err-Code.field-0-is (c.in-Err-Code.ensures.code events h) in
    record {
      says = λ project at h.
          let m = refused at.events line code unskipped (is at.events h.events) in
          subst (λ t. Says (g.C.Console.seen c.args.console.now) (g.C.Console.seen c.put_refusal.new.console) t c.put_refusal.result)
          (ap (λ n. refusal_line (record { code = code; line = n })) (ap (λ n. n + 1) h.lines) ∙ sym (answer_refused project at line code m)) c.put_refusal.ensures;
      goes_on = λ project at h.
          let m = refused at.events line code unskipped (is at.events h.events) in
          anyway c.put_refusal.result _ (at_refused _ _ _ _ project at line code m refl h);
    }

pub returns-in-Err-Memory : goal.returns-in-Err-Memory
returns-in-Err-Memory g c = record {
  says = λ project at h. says_none _ _;
  goes_on = λ project at h. tt;
}
