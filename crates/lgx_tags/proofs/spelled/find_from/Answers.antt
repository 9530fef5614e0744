use Rattle.std.proofs.Common.{◌≡◌, refl, ◌∙◌, [], Ok}
use Rattle.spec_language.specs.OperandForm.{tokens}
use Rattle.lgx_tags.specs.Parts.{part_of}
use Rattle.lgx_tags.specs.TextReading.{subscripts_of, step, found_after}
use Rattle.lgx_tags.proofs.ReadingAnswers.{went_on}
use Rattle.lgx_tags.proofs.ReadingBounds.{step_placed}
use Rattle.lgx_tags.proofs.SpelledForms.{forms_first, forms_on, all_found, all_forms}
use Rattle.lgx_tags.proofs.spelled.find_from.Goals as goal

pub loop-part-init : goal.loop-part-init
loop-part-init g c =
    rw c.new-reading.ensures (record {
      reads = refl;
      placed = record { arrays = tt; found = c.requires.placed };
      forms = forms_first (tokens c.args.text.now) c.args.found;
    })

pub loop-part-preserved : goal.loop-part-preserved
loop-part-preserved g c =
    let s = subscripts_of c.args.subscripts in
    let named = g.N.Names.named c.args.names.now in
    let made : step s c.args.types.now named (part_of c.in-Some.part) c.loop-part.reading ≡ Ok c.in_ok-reading.reading = c.in_ok-reading.ensures.steps in
    record {
      reads = c.loop-part.invariant.reads ∙ went_on s c.args.types.now named (tokens c.loop-part.rest.now) (tokens c.in-Some.after.now) (part_of c.in-Some.part) c.loop-part.reading c.in_ok-reading.reading c.in-Some.ensures.part made;
      placed = step_placed c.args.types.now (g.N.Names.bytes c.args.names.now) s named (part_of c.in-Some.part) c.loop-part.reading c.in_ok-reading.reading c.requires.sound c.requires.lie c.loop-part.invariant.placed made;
      forms = forms_on s c.args.types.now named (tokens c.args.text.now) (tokens c.loop-part.rest.now) (tokens c.in-Some.after.now) (part_of c.in-Some.part) c.loop-part.reading c.in_ok-reading.reading c.loop-part.invariant.forms c.in-Some.ensures.part c.in_ok-reading.ensures.name made;
    }

pub returns-clause-reads : goal.returns-clause-reads
returns-clause-reads g c =
    let s = subscripts_of c.args.subscripts in
    let named = g.N.Names.named c.args.names.now in
    all_found s c.args.types.now named c.loop-part.rest.now c.loop-part.reading (found_after s c.args.types.now named (tokens c.args.text.now) (record { arrays = []; found = c.args.found })) c.end.result c.loop-part.invariant.reads c.end.ensures.end c.end.ensures.closed c.end.ensures.found

pub returns-clause-form : goal.returns-clause-form
returns-clause-form g c = all_forms (tokens c.args.text.now) c.loop-part.rest.now c.loop-part.reading c.end.result c.loop-part.invariant.forms c.end.ensures.end c.end.ensures.closed
