use Rattle.std.proofs.Common.{◌≡◌, true, refl, sym, subst, ◌∙◌, Ok}
use Rattle.std.specs.Option.{is_some}
use Rattle.std.proofs.lemmas.Result.{err_from_is_err_and}
use Rattle.spec_language.specs.OperandForm.{form, tokens}
use Rattle.spec_language.specs.Resolution.{in_form}
use Rattle.lgx_tags.specs.declared.resolve.Subscripts.{Subscripts}
use Rattle.lgx_tags.specs.Parts.{part_of}
use Rattle.lgx_tags.specs.TextReading.{subscripts_of, AnswersTag, step, found_after, end_after}
use Rattle.lgx_tags.proofs.ReadingAnswers.{begun, not_begun, went_on, stopped, ended, answered, fixed}
use Rattle.lgx_tags.proofs.ReadingBounds.{named_placed, step_placed}
use Rattle.lgx_tags.proofs.resolve.resolve_form.Goals as goal

pub returns-in_err-named-clause-answer : goal.returns-in_err-named-clause-answer
returns-in_err-named-clause-answer g c =
    let p = err_from_is_err_and c.from_residual.result c.from_residual.ensures.1 in
    let named = g.N.Names.named c.args.names.now in
    let form_is : is_some (form c.args.text.now) ≡ true = sym c.is_form.ensures ∙ c.if-not-is_form.false in
    rw (p.1, p.2) (not_begun (subscripts_of c.args.subscripts) c.args.types.now named c.args.text.now c.split_word.result.0.now c.split_word.result.1.now _ form_is c.split_word.ensures.tokens c.split_word.ensures.ended (sym c.named.ensures ∙ c.in_err-named.was))

pub loop-part-init : goal.loop-part-init
loop-part-init g c =
    let named = g.N.Names.named c.args.names.now in
    let form_is : is_some (form c.args.text.now) ≡ true = sym c.is_form.ensures ∙ c.if-not-is_form.false in
    let found : named c.split_word.result.0.now ≡ Ok c.in_ok-named.field-0 = sym c.named.ensures ∙ c.in_ok-named.was in
    rw c.new-reading.ensures (record {
      reads = begun (subscripts_of c.args.subscripts) c.args.types.now named c.args.text.now c.split_word.result.0.now c.split_word.result.1.now c.in_ok-named.field-0 form_is c.split_word.ensures.tokens c.split_word.ensures.ended found;
      placed = record { arrays = tt; found = named_placed c.args.types.now (g.N.Names.bytes c.args.names.now) c.in_ok-named.field-0 (c.requires.lie c.split_word.result.0.now c.in_ok-named.field-0 found) };
    })

pub returns-in_err-reading-clause-answer : goal.returns-in_err-reading-clause-answer
returns-in_err-reading-clause-answer g c =
    let p = err_from_is_err_and c.from_residual-in_err-reading.result c.from_residual-in_err-reading.ensures.1 in
    let s = subscripts_of c.args.subscripts in
    let named = g.N.Names.named c.args.names.now in
    answered (in_form s c.args.types.now named c.args.text.now) (found_after s c.args.types.now named (tokens c.loop-part.rest.now) c.loop-part.reading) c.from_residual-in_err-reading.result c.loop-part.invariant.reads (rw (p.1, p.2) (stopped s c.args.types.now named (tokens c.loop-part.rest.now) (tokens c.in-Some.after.now) (part_of c.in-Some.part) c.loop-part.reading _ c.in-Some.ensures.part c.in_err-reading.ensures))

pub loop-part-preserved : goal.loop-part-preserved
loop-part-preserved g c =
    let s = subscripts_of c.args.subscripts in
    let named = g.N.Names.named c.args.names.now in
    let made : step s c.args.types.now named (part_of c.in-Some.part) c.loop-part.reading ≡ Ok c.in_ok-reading.reading = c.in_ok-reading.ensures in
    record {
      reads = c.loop-part.invariant.reads ∙ went_on s c.args.types.now named (tokens c.loop-part.rest.now) (tokens c.in-Some.after.now) (part_of c.in-Some.part) c.loop-part.reading c.in_ok-reading.reading c.in-Some.ensures.part made;
      placed = step_placed c.args.types.now (g.N.Names.bytes c.args.names.now) s named (part_of c.in-Some.part) c.loop-part.reading c.in_ok-reading.reading c.requires.sound c.requires.lie c.loop-part.invariant.placed made;
    }

pub returns-clause-fixed : goal.returns-clause-fixed
returns-clause-fixed g c = λ alone.
    let named = g.N.Names.named c.args.names.now in
    let types = c.args.types.now in
    let text = c.args.text.now in
    let rest = c.loop-part.rest.now in
    let reading = c.loop-part.reading in
    let s = subscripts_of c.args.subscripts in
    let answer : AnswersTag (in_form s types named text) c.end.result = answered (in_form s types named text) (end_after rest reading) c.end.result (c.loop-part.invariant.reads ∙ ended s types named rest reading (c.in_default.ensures.none refl)) c.end.ensures in
    fixed types (g.N.Names.bytes c.args.names.now) named text c.end.result c.requires.sound c.requires.lie (subst (λ (x : Subscripts). AnswersTag (in_form (subscripts_of x) types named text) c.end.result) alone answer)
