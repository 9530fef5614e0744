use Rattle.std.proofs.Common.{Some, ap, length, arith}
use Rattle.lgx_num.specs.declared.number.Kind.TheVariants.{Bool as KBool}
use Rattle.lgx_num.specs.declared.place.Index.{Index}
use Rattle.std.specs.Int.{w32}
use Rattle.std.proofs.lemmas.Int.{to_z-of_z}
use Rattle.lgx_image.proofs.Paths.{subscript_lies, step_taken, continues_more, continues_all}
use Rattle.lgx_image.proofs.bytes.first_bit.Goals as goal

pub number_at-requires : goal.number_at-requires
number_at-requires c =
    let same = ap length c.as_slice-index-items.ensures.value in
    rw c.as_slice-index-items.ensures.value (subscript_lies c.args.path.now.steps _ c.loop-index.index-index _ c.requires.lies.0 (omega arith))

pub loop-index-preserved : goal.loop-index-preserved
loop-index-preserved c =
    let same = ap length c.as_slice-index-items.ensures.value in
    let image = c.args.bytes.now in
    let path = c.args.path.now in
    let k = c.loop-index.index-index in
    let none : Index = record { of = record { kind = KBool; at = 0 }; stride = 0; length = 0 } in
    let taken = step_taken image c.as_slice-index-items.result.now path.steps k none c.number_at.result _ c.distance.result (Some c.in_ok-step.step)
    c.as_slice-index-items.ensures.value c.number_at.ensures (to_z-of_z w32 c.number_at.result (record { sfits = c.number_at.type_inv })) c.distance.ensures c.in_ok-step.was in
    rw c.saturating_add-at.ensures (continues_more image path.steps path.at c.loop-index.at k c.in_ok-step.step none (omega arith) taken c.loop-index.invariant)

pub returns : goal.returns
returns c =
    let same = ap length c.as_slice-index-items.ensures.value in
    record {
      value = continues_all c.args.bytes.now c.args.path.now c.loop-index.at c.loop-index.index-index _ (omega arith) c.requires.room c.requires.lies c.loop-index.invariant;
    }
