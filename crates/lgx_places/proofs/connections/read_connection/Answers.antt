use Rattle.std.proofs.Common.{refl}
use Rattle.lgx_json.specs.Answers.{fault_of}
use Rattle.lgx_places.proofs.Connecting.{connection_is, connection_passes, tag_refused, trigger_refused}
use Rattle.lgx_places.proofs.connections.read_connection.Goals as goal

pub returns-in-Err : goal.returns-in-Err
returns-in-Err c =
    tag_refused c.args.file.now c.args.connection.now c.args.types.now c.as_slice.result.now (fault_of c.in-Err.error) (fault_of c.in_field.result) c.requires.types c.as_slice.ensures (rw c.requires.tags at c.in-Err.ensures.fault) c.in_field.ensures

pub returns-in-Err-trigger_of : goal.returns-in-Err-trigger_of
returns-in-Err-trigger_of c =
    trigger_refused c.args.file.now c.args.connection.now c.args.types.now c.as_slice.result.now (fault_of c.in-Err-trigger_of.error) (fault_of c.in_field-in-Err-trigger_of.result) c.requires.types c.as_slice.ensures (rw c.requires.tags at c.in-Ok.ensures.fault) c.in-Err-trigger_of.ensures c.in_field-in-Err-trigger_of.ensures

pub returns-in-Ok-trigger_of : goal.returns-in-Ok-trigger_of
returns-in-Ok-trigger_of c =
    let words = c.size_of.ensures.value in
    let types = rw c.requires.tags at c.types.ensures.value in
    let passes = connection_passes c.args.file.now c.args.connection.now c.args.types.now c.as_slice.result.now c.requires.types c.as_slice.ensures (rw c.requires.tags at c.in-Ok.ensures.fault) c.in-Ok-trigger_of.ensures.0 in
    let is = connection_is c.args.file.now c.args.connection.now c.as_slice.result.now c.in-Ok.found c.as_slice.ensures (rw c.requires.tags at c.in-Ok.ensures.found) in
    (passes, rw (is, c.copied.ensures, c.in-Ok-trigger_of.ensures.1, words, types) refl)
