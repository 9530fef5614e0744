use Rattle.std.proofs.Common.{arith, sym, ◌∙◌}
use Rattle.lgx_num.specs.Name.{same}
use Rattle.lgx_places.proofs.Steps.{found_at, found_nowhere, position_mapped}
use Rattle.lgx_places.proofs.named.program_named.Goals as goal

pub returns-then-same : goal.returns-then-same
returns-then-same c =
    let name = c.args.name.now in
    let programs = c.as_slice-programs.result.now in
    rw (← c.as_slice-programs.ensures)
    (found_at (λ q. same q.name name) programs c.loop-n.n c.index-programs-n.result (omega arith) c.index-programs-n.is (rw (← c.bytes.ensures.bytes) (sym c.same.ensures ∙ c.if-same.true)) c.loop-n.invariant
    ∙ position_mapped (λ n. same n name) (λ q. q.name) programs)

pub returns : goal.returns
returns c =
    let name = c.args.name.now in
    let programs = c.as_slice-programs.result.now in
    rw (← c.as_slice-programs.ensures)
    (found_nowhere (λ q. same q.name name) programs c.loop-n.n (omega arith) c.loop-n.invariant ∙ position_mapped (λ n. same n name) (λ q. q.name) programs)
