-- One routine more, and all routines.
use Rattle.std.proofs.Common.{◌++◌, map, ap, ◌∙◌}
use Rattle.std.specs.Prelude.{flat_map}
use Rattle.std.specs.List.{enumerate_from}
use Rattle.std.proofs.lemmas.List.{take_all}
use Rattle.lgx_edit.specs.Texts.{routine_of}
use Rattle.spec_uses.specs.Uses.{sites_of_routine}
use Rattle.lgx_xref.proofs.Listed.{mapped_more}
use Rattle.lgx_xref.proofs.placed.placed_in.Goals as goal

pub loop-i-preserved : goal.loop-i-preserved
loop-i-preserved c =
    let routines = c.as_slice-routines.result.now in
    c.in_ok-place_routine.ensures
    ∙ ap (λ placed. placed ++ sites_of_routine c.args.number (c.loop-i.i, routine_of c.index-routines-i.result)) c.loop-i.invariant
    ∙ mapped_more (sites_of_routine c.args.number) routine_of routines c.loop-i.i c.index-routines-i.result c.loop-i-test.true c.index-routines-i.is

pub returns : goal.returns
returns c =
    let routines = c.as_slice-routines.result.now in
    c.loop-i.invariant
    ∙ ap (λ rs. flat_map (sites_of_routine c.args.number) (enumerate_from 0 (map routine_of rs)))
    (take_all c.loop-i.i routines c.loop-i-test.false ∙ c.as_slice-routines.ensures)
