-- One rung more, and all rungs.
use Rattle.std.proofs.Common.{◌++◌, sym, ap, ◌∙◌}
use Rattle.std.specs.Prelude.{flat_map}
use Rattle.std.specs.List.{enumerate_from}
use Rattle.std.proofs.lemmas.List.{append-nil, take_all}
use Rattle.spec_uses.specs.Uses.{sites_of_rung}
use Rattle.lgx_xref.proofs.Placing.{parts_more}
use Rattle.lgx_xref.proofs.Listed.{numbered_more}
use Rattle.lgx_xref.proofs.placed.place_routine.Goals as goal

pub loop-i-init : goal.loop-i-init
loop-i-init c = sym (append-nil c.args.placed.now.items)

pub loop-i-preserved : goal.loop-i-preserved
loop-i-preserved c =
    let rungs = c.as_slice-rungs.result.now in
    parts_more c.args.placed.now.items c.loop-i.placed.items _ _ _ _ c.loop-i.invariant c.in_ok-place_next.ensures
    (numbered_more (sites_of_rung c.args.program c.in_ok-routine_number.routine_number) rungs c.loop-i.i c.index-rungs-i.result c.loop-i-test.true c.index-rungs-i.is)

pub returns : goal.returns
returns c =
    let rungs = c.as_slice-rungs.result.now in
    let at = c.in_ok-routine_number.routine_number in
    c.loop-i.invariant
    ∙ ap (λ ts. c.args.placed.now.items ++ flat_map (sites_of_rung c.args.program at) (enumerate_from 0 ts)) (take_all c.loop-i.i rungs c.loop-i-test.false ∙ c.as_slice-rungs.ensures)
    ∙ ap (λ n. c.args.placed.now.items ++ flat_map (sites_of_rung c.args.program n) (enumerate_from 0 c.args.routine.now.checked)) c.in_ok-routine_number.ensures
