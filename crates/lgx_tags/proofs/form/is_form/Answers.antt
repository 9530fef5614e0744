use Rattle.std.proofs.Common.{◌≡◌, ◌<◌, refl, length, Some, None, ap, sym, ◌∙◌, arith, length-append}
use Rattle.std.proofs.lemmas.Bool.Decides.{nat_tests}
use Rattle.spec_language.specs.OperandForm.{tokens}
use Rattle.lgx_tags.specs.Parts.{part_of}
use Rattle.lgx_tags.specs.FormStates.{state_after, then_on, completes}
use Rattle.lgx_tags.proofs.FormStates.{on_part, not_end, form_named, depth_grows}
use Rattle.lgx_tags.proofs.form.is_form.Goals as goal

pub loop-part-init : goal.loop-part-init
loop-part-init c =
    let name = c.split_word.result.0.now in
    let rest = c.split_word.result.1.now in
    record {
      reads = sym (form_named c.args.text.now name rest c.split_word.ensures.tokens (sym c.is_tag_name.ensures ∙ c.if-not-is_tag_name.false));
      room = omega (arith, ap length c.split_word.ensures.whole, length-append name rest);
    }

pub returns-in_default-after : goal.returns-in_default-after
returns-in_default-after c =
    let s = c.loop-part.state in
    let said : state_after s (part_of c.in-Some.part) ≡ None = sym c.in_default-after.ensures in
    let step : completes (tokens c.loop-part.rest.now) s ≡ then_on (completes (tokens c.in-Some.after.now)) (state_after s (part_of c.in-Some.part)) = on_part (tokens c.loop-part.rest.now) (tokens c.in-Some.after.now) s (part_of c.in-Some.part) c.in-Some.ensures.part in
    sym (rw said at step) ∙ c.loop-part.invariant.reads

pub loop-part-preserved : goal.loop-part-preserved
loop-part-preserved c =
    let s = c.loop-part.state in
    let t = c.in-Some-after.next in
    let said : state_after s (part_of c.in-Some.part) ≡ Some t = sym c.in-Some-after.ensures in
    let step : completes (tokens c.loop-part.rest.now) s ≡ then_on (completes (tokens c.in-Some.after.now)) (state_after s (part_of c.in-Some.part)) = on_part (tokens c.loop-part.rest.now) (tokens c.in-Some.after.now) s (part_of c.in-Some.part) c.in-Some.ensures.part in
    record {
      reads = sym (rw said at step) ∙ c.loop-part.invariant.reads;
      room = omega (arith, depth_grows s t (part_of c.in-Some.part) said, c.in-Some.ensures.shorter, c.loop-part.invariant.room);
    }

pub returns-else-is_empty : goal.returns-else-is_empty
returns-else-is_empty c =
    let rest = c.loop-part.rest.now in
    let some : 0 < length rest = grind (arith, nat_tests, c.is_empty.ensures) in
    c.if-is_empty.false ∙ sym (not_end rest c.loop-part.state (c.in_default.ensures.none refl) some) ∙ c.loop-part.invariant.reads
