use Rattle.std.proofs.Common.{◌≡◌, ◌+◌, ℕ, List, [], ◌∷◌, ◌++◌, Bool, true, false, Ok, Err, sym, ap, ◌∙◌, subst}
use Rattle.lgx_answer.specs.Endings.{Ending}
use Rattle.lgx_record.specs.IsRunOf.{IsRunOf}
use Rattle.lgx_live.specs.declared.console.AskFault.{AskFault}
use Rattle.lgx_live.specs.Session.{Point, no_line_yet, after, after_all, is_last}
use Rattle.lgx_live.specs.Output.{answer_text}
use Rattle.lgx_live.specs.Console.{Asks, Says}
use Rattle.lgx_live.specs.Talks.{Talks, IsAt}
use Rattle.lgx_live.proofs.Saying.{done}
use Rattle.lgx_live.proofs.Points.{after_all_more}
use Rattle.lgx_live.proofs.Talking.{over_ended, over_last, talk_ends, talk_misses, talk_lacks, talk_stops, talk_cut, talk_begins, talk_goes_on}
use Rattle.lgx_live.proofs.session.take_turns.Goals as goal

pub loop-init : goal.loop-init
loop-init g c = record {
  count = c.requires.some.1.lines;
  all = λ project at. ([], talk_begins project _ c.requires.written, at);
}

pub returns-then-is_last : goal.returns-then-is_last
returns-then-is_last g c = λ project h.
    let a = g.C.Console.seen c.args.console.now in
    let b = g.C.Console.seen c.loop.console in
    let k = g.C.Console.seen c.next_line.new.self in
    let d = g.C.Console.seen c.end.new.console in
    let line = c.next_line.new.line.items in
    let so_far = c.loop.invariant.all project h in
    let is : is_last line ≡ true = ap is_last (sym c.as_slice-came.ensures.value) ∙ sym c.is_last.ensures ∙ c.if-is_last.true in
    let over = over_last b.lines k.lines line (c.in-Ok-true.ensures.came (ap (λ r. Ok r) c.in-Ok-true.field-0-test)) is in
    let P : Ending → Type 0 = λ e. Talks project a d e in
    subst P (sym c.status_of.ensures)
    (talk_ends c.end.result project a b k d so_far.0 line c.in-Ok-true.field-0 so_far.1 c.in-Ok-true.ensures over (c.end.ensures.says project (after_all no_line_yet so_far.0).events so_far.2.follows) c.end.ensures.written)

pub returns-in-Err : goal.returns-in-Err
returns-in-Err g c = λ project h.
    let a = g.C.Console.seen c.args.console.now in
    let b = g.C.Console.seen c.loop.console in
    let k = g.C.Console.seen c.next_line.new.self in
    let d = g.C.Console.seen c.exchange.new.console in
    let line = c.next_line.new.line.items in
    let so_far = c.loop.invariant.all project h in
    let at = after_all no_line_yet so_far.0 in
    let is : is_last line ≡ false = ap is_last (sym c.as_slice-came.ensures.value) ∙ sym c.is_last.ensures ∙ c.if-is_last.false in
    let A : Bool → Type 0 = λ r. Asks b k line (Ok r) in
    let S : List ℕ → Type 0 = λ t. Says k d (answer_text project at t) (Err c.in-Err.fault) in
    let P : Ending → Type 0 = λ e. Talks project a d e in
    subst P (sym c.status_of-in-Err.ensures)
    (talk_cut c.in-Err.fault project a b k d so_far.0 line so_far.1 (subst A c.in-Ok-true.field-0-test c.in-Ok-true.ensures) is (subst S c.as_slice-came.ensures.value (c.in-Err.ensures.says project at so_far.2)))

pub returns-in-Ok-false : goal.returns-in-Ok-false
returns-in-Ok-false g c = λ project h.
    let a = g.C.Console.seen c.args.console.now in
    let b = g.C.Console.seen c.loop.console in
    let k = g.C.Console.seen c.next_line.new.self in
    let d = g.C.Console.seen c.end-in-Ok-false.new.console in
    let line = c.next_line.new.line.items in
    let so_far = c.loop.invariant.all project h in
    let over = over_ended b.lines (c.in-Ok-false.ensures.ended (ap (λ r. Ok r) c.in-Ok-false.field-0-test)) in
    let P : Ending → Type 0 = λ e. Talks project a d e in
    subst P (sym c.status_of-in-Ok-false.ensures)
    (talk_ends c.end-in-Ok-false.result project a b k d so_far.0 line c.in-Ok-false.field-0 so_far.1 c.in-Ok-false.ensures over (c.end-in-Ok-false.ensures.says project (after_all no_line_yet so_far.0).events so_far.2.follows) c.end-in-Ok-false.ensures.written)

pub returns-in-Err-Failed : goal.returns-in-Err-Failed
returns-in-Err-Failed g c = λ project h.
    let a = g.C.Console.seen c.args.console.now in
    let b = g.C.Console.seen c.loop.console in
    let k = g.C.Console.seen c.next_line.new.self in
    let line = c.next_line.new.line.items in
    let so_far = c.loop.invariant.all project h in
    let A : AskFault → Type 0 = λ e. Asks b k line (Err e) in
    talk_misses project a b k so_far.0 line so_far.1 (subst A c.in-Err-Failed.field-0-is c.in-Err-Failed.ensures)

pub returns-in-Err-Memory : goal.returns-in-Err-Memory
returns-in-Err-Memory g c = λ project h.
    let a = g.C.Console.seen c.args.console.now in
    let b = g.C.Console.seen c.loop.console in
    let k = g.C.Console.seen c.next_line.new.self in
    let line = c.next_line.new.line.items in
    let so_far = c.loop.invariant.all project h in
    let A : AskFault → Type 0 = λ e. Asks b k line (Err e) in
    talk_lacks project a b k so_far.0 line so_far.1 (subst A c.in-Err-Memory.field-0-is c.in-Err-Memory.ensures)

pub loop-preserved : goal.loop-preserved
loop-preserved g c =
    let a = g.C.Console.seen c.args.console.now in
    let b = g.C.Console.seen c.loop.console in
    let k = g.C.Console.seen c.next_line.new.self in
    let d = g.C.Console.seen c.exchange.new.console in
    let line = c.next_line.new.line.items in
    record {
      count =
          let some = c.requires.some in
          let so_far = c.loop.invariant.all some.0 some.1 in
          let next = c.in-Ok.ensures.goes_on some.0 (after_all no_line_yet so_far.0) so_far.2 in
          next.lines ∙ ap (λ n. n + 1) (sym so_far.2.lines ∙ c.loop.invariant.count);
      all = λ project h.
          let so_far = c.loop.invariant.all project h in
          let at = after_all no_line_yet so_far.0 in
          let is : is_last line ≡ false = ap is_last (sym c.as_slice-came.ensures.value) ∙ sym c.is_last.ensures ∙ c.if-is_last.false in
          let A : Bool → Type 0 = λ r. Asks b k line (Ok r) in
          let S : List ℕ → Type 0 = λ t. Says k d (answer_text project at t) done in
          let P : Point → Type 0 = λ p. IsAt (IsRunOf c.exchange.new.follow.run) c.exchange.new.pad.events c.exchange.new.pad.lines project p in (
            so_far.0 ++ line ∷ [],
            talk_goes_on project a b k d so_far.0 line so_far.1 (subst A c.in-Ok-true.field-0-test c.in-Ok-true.ensures) is (subst S c.as_slice-came.ensures.value (c.in-Ok.ensures.says project at so_far.2)) c.in-Ok.ensures.written,
            subst P (ap (after at) c.as_slice-came.ensures.value ∙ sym (after_all_more no_line_yet so_far.0 line)) (c.in-Ok.ensures.goes_on project at so_far.2),
          );
    }

pub returns : goal.returns
returns g c = λ project h.
    let so_far = c.loop.invariant.all project h in
    talk_stops project (g.C.Console.seen c.args.console.now) (g.C.Console.seen c.loop.console) so_far.0 so_far.1
