use Rattle.std.proofs.Common.{sym, ◌∙◌}
use Rattle.lgx_json.specs.Answers.{fault_of}
use Rattle.lgx_places.proofs.Values.{tag_refused, value_passes, value_put, value_refused}
use Rattle.lgx_places.proofs.places.put_value.Goals as goal

pub returns-in-Err-clause-fault : goal.returns-in-Err-clause-fault
returns-in-Err-clause-fault c =
    tag_refused c.args.file.now c.args.initial.now c.as_slice.result.now (fault_of c.in-Err.error) (fault_of c.in_field.result) c.as_slice.ensures c.in-Err.ensures.reads c.in_field.ensures

pub returns-in-Err-put_fitting-clause-fault : goal.returns-in-Err-put_fitting-clause-fault
returns-in-Err-put_fitting-clause-fault c =
    value_refused c.args.file.now c.args.initial.now c.as_slice.result.now c.in-Ok.place (fault_of c.in-Err-put_fitting.error) (fault_of c.in_field-in-Err-put_fitting.result) c.as_slice.ensures c.in-Ok.ensures.reads.0 c.in-Ok.ensures.reads.1 c.in-Err-put_fitting.ensures.fault c.in_field-in-Err-put_fitting.ensures

pub returns-in-Ok-put_fitting-clause-fault : goal.returns-in-Ok-put_fitting-clause-fault
returns-in-Ok-put_fitting-clause-fault c =
    value_passes c.args.file.now c.args.initial.now c.as_slice.result.now c.in-Ok.place c.as_slice.ensures c.in-Ok.ensures.reads.0 c.in-Ok.ensures.reads.1 c.in-Ok-put_fitting.ensures.fault

pub returns-in-Ok-put_fitting-clause-put : goal.returns-in-Ok-put_fitting-clause-put
returns-in-Ok-put_fitting-clause-put c =
    c.in-Ok-put_fitting.ensures.put ∙ sym (value_put c.args.file.now c.args.initial.now c.as_slice.result.now c.args.image.now.bytes c.in-Ok.place c.as_slice.ensures c.in-Ok.ensures.reads.1)
