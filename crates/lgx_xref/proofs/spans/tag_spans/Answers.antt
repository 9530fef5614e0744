-- One tag more.
use Rattle.std.proofs.Common.{◌<◌, List, ◌++◌, ◌∷◌, [], length, ap, sym, ◌∙◌, arith}
use Rattle.std.proofs.lemmas.Option.{slice_get-get_or}
use Rattle.spec_language.specs.TagSpans.{spans_of}
use Rattle.spec_language.specs.declared.span.TagSpan.{TagSpan}
use Rattle.spec_uses.specs.Uses.{no_span}
use Rattle.lgx_xref.proofs.Chosen.{take_there}
use Rattle.lgx_xref.proofs.spans.tag_spans.Goals as goal
use Rattle.lgx_xref.proofs.spans.tag_spans.Goals.{in-Some+in_ok-push, in_default}

pub loop-number-preserved : goal.loop-number-preserved
loop-number-preserved c =
    let spans : List TagSpan = spans_of c.args.tags.now.declarations in
    let n = c.loop-number.number in
    elim c.match-tag_at.branch [
      | in-Some+in_ok-push w ↦
          ap (λ s. s.items) w.spans-is ∙ w.in_ok-push.ensures.items ∙ ap (λ (l : List TagSpan). l ++ w.in-Some.span ∷ []) c.loop-number.invariant
          ∙ sym (take_there spans n w.in-Some.span (sym w.in-Some.ensures))
      | in_default w ↦
          let within : n < length spans = omega (arith, c.tag_count-count.ensures) in
          let there = slice_get-get_or spans n no_span within in
          absurd (cc (there, w.in_default.ensures))
    ]
