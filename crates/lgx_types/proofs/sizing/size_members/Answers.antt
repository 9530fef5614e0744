use Rattle.std.proofs.Common.{◌≡◌, ◌∙◌, sym, refl}
use Rattle.lgx_types.specs.Sizing.{types_at}
use Rattle.lgx_types.proofs.MemberSizes.{begun_next, inner_next}
use Rattle.lgx_types.proofs.sizing.size_members.Goals as goal

pub returns-in-Err-clause-inner : goal.returns-in-Err-clause-inner
returns-in-Err-clause-inner c =
    let is : c.types_at-types.result.now ≡ types_at c.args.resolved.now c.loop-k.frame.structure = rw c.loop-k.invariant.same c.types_at-types.ensures.value in
    inner_next c.args.resolved.now c.args.visits.now c.types_at-types.result.now c.loop-k.frame.structure c.loop-k.k _ c.in-Err.inner is c.loop-k-test.true (sym c.element_of.ensures ∙ c.in-Err.is)

pub loop-k-preserved : goal.loop-k-preserved
loop-k-preserved c =
    let is : c.types_at-types.result.now ≡ types_at c.args.resolved.now c.loop-k.frame.structure = rw c.loop-k.invariant.same c.types_at-types.ensures.value in
    record {
      begun = begun_next c.args.resolved.now c.args.visits.now c.types_at-types.result.now c.loop-k.frame c.loop-k.k _ c.in-Ok.size c.requires.visits c.loop-k.invariant.begun is c.loop-k.invariant.place c.loop-k-test.true (sym c.element_of.ensures ∙ c.in-Ok.is) c.end_after-frame.result c.end_after-frame.ensures;
      same = c.loop-k.invariant.same;
      place = refl;
    }
