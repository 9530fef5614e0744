-- The next action of the trail, with the steps before it.
use Rattle.std.proofs.Common.{◌+◌, ◌≤◌, List, length, take, get_or, sym, ap, subst, ◌∙◌, arith}
use Rattle.std.proofs.lemmas.List.{get_or_default}
use Rattle.spec_base.specs.declared.limits.TheConstants.{MAX_EVENTS}
use Rattle.spec_machine.specs.declared.event.Event.{Event}
use Rattle.spec_machine.specs.Events.{steps_of}
use Rattle.spec_lanes.specs.Laws.{opening}
use Rattle.lgx_walker.specs.declared.trail.Placed.{Placed}
use Rattle.lgx_walker.specs.Trails.{placed_from, journal_of}
use Rattle.lgx_walker.proofs.Trailed.{few_placed, number_placed, next_placed, steps_placed}
use Rattle.lgx_walker.proofs.witness.journal_of.Goals as goal

pub add_placed-requires-clause-few : goal.add_placed-requires-clause-few
add_placed-requires-clause-few c =
    let xs = c.as_slice-placed-items.result.now in
    let i = c.loop-placed.placed-index in
    let same = c.as_slice-placed-items.ensures in
    few_placed c.args.script.now xs i (get_or xs i (record { lane = 0; index = 0; since = 0 })) c.loop-placed.journal.events c.loop-placed-test.true (get_or_default xs i _ _ c.loop-placed-test.true)
    (c.loop-placed.invariant.0 ∙ ap (λ (ms : List Placed). placed_from c.args.script.now opening (take i ms)) (sym same))
    c.args.trail.now.since (subst (λ (ms : List Placed). length (journal_of c.args.script.now ms c.args.trail.now.since) + 2 ≤ MAX_EVENTS) (sym same) c.requires)

pub overflow_add-done : goal.overflow_add-done
overflow_add-done c =
    let xs = c.as_slice-placed-items.result.now in
    let i = c.loop-placed.placed-index in
    let same = c.as_slice-placed-items.ensures in
    let few = number_placed c.args.script.now xs i (get_or xs i (record { lane = 0; index = 0; since = 0 })) c.loop-placed.journal.events c.loop-placed-test.true (get_or_default xs i _ _ c.loop-placed-test.true)
    (c.loop-placed.invariant.0 ∙ ap (λ (ms : List Placed). placed_from c.args.script.now opening (take i ms)) (sym same))
    c.args.trail.now.since (subst (λ (ms : List Placed). length (journal_of c.args.script.now ms c.args.trail.now.since) + 2 ≤ MAX_EVENTS) (sym same) c.requires) in
    let done = c.loop-placed.invariant.1 in
    omega arith

pub loop-placed-preserved : goal.loop-placed-preserved
loop-placed-preserved c =
    let xs = c.as_slice-placed-items.result.now in
    let i = c.loop-placed.placed-index in
    let same = c.as_slice-placed-items.ensures in
    let made = c.in_ok-add_placed.ensures in (
      made
          ∙ next_placed c.args.script.now xs i (get_or xs i (record { lane = 0; index = 0; since = 0 })) c.loop-placed.journal.events c.loop-placed-test.true (get_or_default xs i _ _ c.loop-placed-test.true)
          (c.loop-placed.invariant.0 ∙ ap (λ (ms : List Placed). placed_from c.args.script.now opening (take i ms)) (sym same))
          ∙ ap (λ (ms : List Placed). placed_from c.args.script.now opening (take (i + 1) ms)) same,
      ap (λ n. n + (get_or xs i (record { lane = 0; index = 0; since = 0 })).since) c.loop-placed.invariant.1 ∙ sym (ap (λ (es : List Event). steps_of es) made ∙ steps_placed c.args.script.now c.loop-placed.journal.events (get_or xs i (record { lane = 0; index = 0; since = 0 }))),
    )
