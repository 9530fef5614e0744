use Rattle.std.proofs.Common.{◌≡◌, ◌∙◌, ap, arith, ◌+◌, ◌≤◌, ℕ, get_or}
use Rattle.spec_language.specs.declared.types.Base.TheVariants.{Bool as OneBit}
use Rattle.spec_language.specs.declared.types.DataType.{DataType}
use Rattle.spec_language.specs.Layout.{begin_after, size_in, round_up}
use Rattle.lgx_types.specs.Sizing.{end_of}
use Rattle.lgx_types.proofs.Placed.{ends_next, fits_next, places_next}
use Rattle.lgx_types.proofs.layout.places.Goals as goal

-- what stands for a type that isn't there
abbrev none : DataType
none = record { base = OneBit; dim = 0 }

pub size_in-requires : goal.size_in-requires
size_in-requires c =
    let t : DataType = get_or c.args.types.now c.loop-k.k none in
    let fits : begin_after c.loop-k.at t + size_in c.args.sizes.now t ≤ end_of c.args.sizes.now 0 c.args.types.now = fits_next c.args.sizes.now c.args.types.now c.loop-k.at c.loop-k.k _ none c.loop-k-test.true c.loop-k.invariant.ends in
    omega (arith, fits, c.requires)

pub overflow_add-at : goal.overflow_add-at
overflow_add-at c =
    let t : DataType = get_or c.args.types.now c.loop-k.k none in
    let begin : c.round_up-begin.result ≡ begin_after c.loop-k.at t = c.round_up-begin.ensures.value ∙ ap (λ (n : ℕ). round_up n c.loop-k.at) c.alignment.ensures.value in
    let fits : begin_after c.loop-k.at t + size_in c.args.sizes.now t ≤ end_of c.args.sizes.now 0 c.args.types.now = fits_next c.args.sizes.now c.args.types.now c.loop-k.at c.loop-k.k _ none c.loop-k-test.true c.loop-k.invariant.ends in
    omega (arith, begin, fits, c.size_in.ensures, c.requires)

pub loop-k-preserved : goal.loop-k-preserved
loop-k-preserved c =
    let t : DataType = get_or c.args.types.now c.loop-k.k none in
    let begin : c.round_up-begin.result ≡ begin_after c.loop-k.at t = c.round_up-begin.ensures.value ∙ ap (λ (n : ℕ). round_up n c.loop-k.at) c.alignment.ensures.value in
    let fits : begin_after c.loop-k.at t + size_in c.args.sizes.now t ≤ end_of c.args.sizes.now 0 c.args.types.now = fits_next c.args.sizes.now c.args.types.now c.loop-k.at c.loop-k.k _ none c.loop-k-test.true c.loop-k.invariant.ends in
    record {
      low = omega (arith, begin, fits, c.size_in.ensures, c.requires);
      placed = rw (c.in_ok-push.ensures.items, begin, c.size_in.ensures) (places_next c.args.sizes.now c.args.types.now c.loop-k.at c.loop-k.k none c.loop-k.places.items _ c.loop-k-test.true c.loop-k.invariant.placed);
      ends = rw (begin, c.size_in.ensures) (ends_next c.args.sizes.now c.args.types.now c.loop-k.at c.loop-k.k _ none c.loop-k-test.true c.loop-k.invariant.ends);
    }
