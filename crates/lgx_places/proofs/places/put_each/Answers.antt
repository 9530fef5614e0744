use Rattle.std.proofs.Common.{◌+◌, arith, ap, sym, ◌∙◌, drop}
use Rattle.std.specs.Prelude.{fold}
use Rattle.spec_project.specs.Places.{initial_fault, with_value}
use Rattle.lgx_json.specs.Answers.{fault_of}
use Rattle.lgx_places.proofs.Steps.{fold_step, passed_at, refused_at}
use Rattle.lgx_places.proofs.places.put_each.Goals as goal

pub returns-in-Err-clause-fault : goal.returns-in-Err-clause-fault
returns-in-Err-clause-fault c =
    refused_at (initial_fault c.args.file.now) c.args.values.now c.loop-i.i c.index-values-i.result (fault_of c.in-Err.error) (fault_of c.at_place.result) (omega arith) c.index-values-i.is c.loop-i.invariant.goes c.in-Err.ensures.fault c.at_place.ensures

pub loop-i-preserved : goal.loop-i-preserved
loop-i-preserved c =
    let values = c.args.values.now in
    let p = c.args.file.now in
    record {
      goes = passed_at (initial_fault p) values c.loop-i.i c.index-values-i.result (omega arith) c.index-values-i.is c.loop-i.invariant.goes c.in-Ok.ensures.fault;
      put = ap (λ b. fold (with_value p) b (drop (c.loop-i.i + 1) values)) c.in-Ok.ensures.put ∙ sym (fold_step (with_value p) c.loop-i.image.bytes values c.loop-i.i c.index-values-i.result (omega arith) c.index-values-i.is) ∙ c.loop-i.invariant.put;
      len = c.in-Ok.ensures.len;
    }
