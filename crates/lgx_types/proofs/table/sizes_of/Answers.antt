use Rattle.std.specs.List.{AllByRecursion as Each}
use Rattle.lgx_types.specs.Tables.{IsSmall, IsLarge}
use Rattle.lgx_types.proofs.Verdicts.{AllSized, cycle_first, large_first, sizes_are, no_fault}
use Rattle.lgx_types.proofs.table.sizes_of.Goals as goal

pub returns-in_ok-first-in-Cycle-clause-fault : goal.returns-in_ok-first-in-Cycle-clause-fault
returns-in_ok-first-in-Cycle-clause-fault c =
    rw c.fault_of.ensures (cycle_first c.args.resolved.now c.in_ok-first-in-Cycle.first c.requires.in_order c.in_ok-first-in-Cycle.ensures)

pub returns-in-Some-clause-fault : goal.returns-in-Some-clause-fault
returns-in-Some-clause-fault c =
    let sized : AllSized c.args.resolved.now c.in-Sizes.sizes.items = rw c.in-Sizes.is at c.in_ok-cycle.ensures in
    let large : IsLarge c.in-Sizes.sizes.items c.in-Some.i = rw c.deref.ensures.value at c.in-Some.ensures.some in
    rw c.fault_of-in-Some.ensures (large_first c.args.resolved.now c.in-Sizes.sizes.items c.in-Some.i c.requires.in_order c.requires.members sized large)

pub returns-in_default : goal.returns-in_default
returns-in_default c =
    let sized : AllSized c.args.resolved.now c.in-Sizes.sizes.items = rw c.in-Sizes.is at c.in_ok-cycle.ensures in
    let small : Each IsSmall c.in-Sizes.sizes.items = rw c.deref.ensures.value at c.in_default.ensures.none in
    record {
      sized = sizes_are c.args.resolved.now c.in-Sizes.sizes.items c.requires.in_order c.requires.members sized small;
      small = small;
      faultless = no_fault c.args.resolved.now c.in-Sizes.sizes.items c.requires.in_order c.requires.members sized small;
      fault = tt;
    }
