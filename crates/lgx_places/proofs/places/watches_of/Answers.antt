use Rattle.std.proofs.Common.{[], ◌∷◌, arith, ap, sym, ◌∙◌, ◌++◌, map, take}
use Rattle.std.specs.List.{filter_map}
use Rattle.std.proofs.lemmas.List.{map-append}
use Rattle.spec_project.specs.Places.{place_fault, watch_of as named_watch}
use Rattle.lgx_edit.specs.Plants.{watch_of}
use Rattle.lgx_json.specs.Answers.{fault_of}
use Rattle.lgx_json.proofs.Steps.{gathered_more}
use Rattle.lgx_places.proofs.Steps.{passed_at, refused_at}
use Rattle.lgx_places.proofs.places.watches_of.Goals as goal

pub returns-in-Err-clause-fault : goal.returns-in-Err-clause-fault
returns-in-Err-clause-fault c =
    refused_at (place_fault c.args.file.now) c.args.texts.now c.loop-i.i c.index-texts-i.result (fault_of c.in-Err.error) (fault_of c.at_place.result) (omega arith) c.index-texts-i.is c.loop-i.invariant.goes (rw c.as_slice.ensures at c.in-Err.ensures.fault) c.at_place.ensures

pub loop-i-preserved : goal.loop-i-preserved
loop-i-preserved c =
    let texts = c.args.texts.now in
    let p = c.args.file.now in
    let one = c.in-Ok.ensures.watch in
    record {
      goes = passed_at (place_fault p) texts c.loop-i.i c.index-texts-i.result (omega arith) c.index-texts-i.is c.loop-i.invariant.goes (rw c.as_slice.ensures at c.in-Ok.ensures.fault);
      made =
          ap (map watch_of) c.in_ok-push-in-Ok.ensures.items ∙ map-append watch_of c.loop-i.made.items (c.in-Ok.watch ∷ [])
          ∙ ap (λ ws. ws ++ watch_of c.in-Ok.watch ∷ []) c.loop-i.invariant.made
          ∙ ap (λ ws. filter_map (named_watch p) (take c.loop-i.i texts) ++ ws) (sym (rw c.as_slice.ensures at one))
          ∙ sym (gathered_more (named_watch p) texts c.loop-i.i c.index-texts-i.result (omega arith) c.index-texts-i.is);
    }
