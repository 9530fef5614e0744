use Rattle.std.proofs.Common.{arith}
use Rattle.spec_project.specs.Places.{connection_fault, connection_of}
use Rattle.lgx_json.specs.Answers.{fault_of}
use Rattle.lgx_places.proofs.Steps.{map_more, passed_at, refused_at}
use Rattle.lgx_places.proofs.connections.read_each.Goals as goal

pub returns-in-Err : goal.returns-in-Err
returns-in-Err c =
    refused_at (connection_fault c.args.file.now) c.args.connections.now c.loop-i.i c.index-connections-i.result (fault_of c.in-Err.error) (fault_of c.at_place.result) (omega arith) c.index-connections-i.is c.loop-i.invariant.goes c.in-Err.ensures c.at_place.ensures

pub loop-i-preserved : goal.loop-i-preserved
loop-i-preserved c =
    let defs = c.args.connections.now in
    let p = c.args.file.now in
    record {
      goes = passed_at (connection_fault p) defs c.loop-i.i c.index-connections-i.result (omega arith) c.index-connections-i.is c.loop-i.invariant.goes c.in-Ok.ensures.0;
      made =
          rw (map_more (connection_of p) defs c.loop-i.i c.index-connections-i.result (omega arith) c.index-connections-i.is, ← c.loop-i.invariant.made, ← c.in-Ok.ensures.1)
          c.in_ok-push-in-Ok.ensures.items;
    }
