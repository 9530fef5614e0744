-- An element is smaller than its rung, and a leg than all legs.
use Rattle.std.proofs.Common.{◌<◌, arith}
use Rattle.lgx_rung.specs.Sizes.{tree_size, list_size}
use Rattle.lgx_rung.proofs.Walks.{element_of, element_size, leg_of}
use Rattle.lgx_edit.proofs.same_texts.+same.Goals as goal

pub same_legs-same_source-requires : goal.same_legs-same_source-requires
same_legs-same_source-requires t c =
    let d = c.decreases in
    let falls : tree_size c.index-ours-number.result < list_size c.args.a.now =
    leg_of c.as_slice-ours.result.now c.args.a.now c.loop-number.number c.index-ours-number.result c.as_slice-ours.ensures.legs c.loop-number-test.true c.index-ours-number.is in
    (omega arith, tt)

pub same_source-same_element-requires : goal.same_source-same_element-requires
same_source-same_element-requires t c =
    let d = c.decreases in
    let falls : element_size c.index-ours-number.result < tree_size c.args.a.now =
    element_of c.elements-ours.result.now c.loop-number.number c.index-ours-number.result c.args.a.now c.elements-ours.ensures.elements c.loop-number-test.true c.index-ours-number.is in
    (omega arith, tt)
