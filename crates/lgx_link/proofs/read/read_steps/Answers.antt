use Rattle.std.proofs.Common.{◌+◌, List, [], ◌∷◌, ◌++◌, ap, sym, ◌∙◌, arith}
use Rattle.spec_text.specs.TextLines.{lines}
use Rattle.spec_link.specs.declared.script.LinkStep.{LinkStep}
use Rattle.spec_link.specs.LinkText.{Counts, steps_from}
use Rattle.lgx_link.specs.Reading.{after_steps}
use Rattle.lgx_link.proofs.ReadSteps.{line_ends, line_read, line_skipped, none_before}
use Rattle.lgx_link.proofs.read.read_steps.Goals as goal

pub loop-line-init : goal.loop-line-init
loop-line-init c = record {
  same =
      ap (λ (xs : List LinkStep). after_steps xs (steps_from (c.args.first + 1) c.new-reader.result (lines c.args.text.now))) c.requires.none
      ∙ none_before (steps_from (c.args.first + 1) c.new-reader.result (lines c.args.text.now))
      ∙ ap (λ (n : Counts). steps_from (c.args.first + 1) n (lines c.args.text.now)) c.new-reader.ensures;
  number = omega arith;
}

pub loop-line-preserved-then-is_skipped : goal.loop-line-preserved-then-is_skipped
loop-line-preserved-then-is_skipped c = record {
  same =
      ap (after_steps c.loop-line.steps.items) (sym (line_skipped (c.loop-line.number + 1) c.loop-line.reader c.in-Some.line.now (lines c.in-Some.after.now) (lines c.loop-line.rest.now) c.in-Some.ensures.some (sym c.is_skipped.ensures ∙ c.if-is_skipped.true)))
      ∙ c.loop-line.invariant.same;
  number = omega (arith, c.in-Some.ensures.shorter);
}

pub returns-then-is_last-clause-steps : goal.returns-then-is_last-clause-steps
returns-then-is_last-clause-steps c =
    sym c.loop-line.invariant.same
    ∙ line_ends c.loop-line.steps.items (c.loop-line.number + 1) c.loop-line.reader c.in-Some.line.now (lines c.in-Some.after.now) (lines c.loop-line.rest.now) c.in-Some.ensures.some (sym c.is_skipped.ensures ∙ c.if-is_skipped.false) (sym c.is_last.ensures ∙ c.if-is_last.true)

pub loop-line-preserved : goal.loop-line-preserved
loop-line-preserved c =
    let xs = c.loop-line.steps.items in
    let n = c.loop-line.number + 1 in
    let step = c.in-Ok.step in
    let ls = lines c.in-Some.after.now in
    let told = line_read xs n c.loop-line.reader c.in-Some.line.now ls (lines c.loop-line.rest.now) step c.in-Some.ensures.some (sym c.is_skipped.ensures ∙ c.if-is_skipped.false) (sym c.is_last.ensures ∙ c.if-is_last.false) c.in-Ok.ensures.step in
    record {
      same =
          ap (λ (ys : List LinkStep). after_steps ys (steps_from (n + 1) c.read_step.new.self ls)) c.in_ok-push_step-in-Ok.ensures
          ∙ ap (λ (d : Counts). after_steps (xs ++ step ∷ []) (steps_from (n + 1) d ls)) c.in-Ok.ensures.counted
          ∙ sym told ∙ c.loop-line.invariant.same;
      number = omega (arith, c.in-Some.ensures.shorter);
    }
