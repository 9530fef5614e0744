use Rattle.std.proofs.Common.{◌≡◌, false, refl}
use Rattle.lgx_json.proofs.Values.{value_found, no_value}
use Rattle.lgx_json.proofs.top.read_value.Goals as goal

pub returns-in-Ok-clause-value : goal.returns-in-Ok-clause-value
returns-in-Ok-clause-value c = value_found c.args.bytes.now _ c.in-Ok.ensures.ok.0 c.in-Ok.ensures.ok.1

pub returns-else-is_memory-clause-fault : goal.returns-else-is_memory-clause-fault
returns-else-is_memory-clause-fault c =
    let other : c.is_memory.result ≡ false = c.if-is_memory.false in
    let none = no_value c.args.bytes.now (c.in-Err.ensures.err (λ m. let is = c.is_memory.ensures.1 m in absurd (cc))) in
    rw (none, c.here.ensures) refl
