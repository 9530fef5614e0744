use Rattle.std.proofs.Common.{arith}
use Rattle.spec_language.specs.declared.types.Base.TheVariants.{Bool as OneBit}
use Rattle.spec_language.specs.declared.types.DataType.{DataType}
use Rattle.lgx_types.proofs.Seen.{numbered_at, seen_next, seen_all, part_at}
use Rattle.lgx_types.proofs.cycle.see_parts.Goals as goal

-- what stands for a type that isn't there
abbrev none : DataType
none = record { base = OneBit; dim = 0 }

pub loop-k-init : goal.loop-k-init
loop-k-init c = record { many = c.requires.many; search = λ i s r. s; parts = λ y p. absurd (cc p); kept = λ x p. p; less = omega arith }

pub see-requires : goal.see-requires
see-requires c = rw c.loop-k.invariant.many (numbered_at c.args.resolved.now c.args.j c.loop-k.k none c.types_at-types.result.now c.types_at-types.ensures.value c.loop-k-test.true)

pub loop-k-preserved : goal.loop-k-preserved
loop-k-preserved c = record {
  many = omega (arith, c.see.auto.seen, c.loop-k.invariant.many);
  search = λ i s r. c.in_ok-see.ensures.search c.args.resolved.now i c.args.j (c.loop-k.invariant.search i s r) (part_at c.args.resolved.now i c.args.j c.loop-k.k none c.types_at-types.result.now c.types_at-types.ensures.value c.loop-k-test.true r);
  parts = seen_next c.types_at-types.result.now c.loop-k.seen c.see.new.seen c.loop-k.k none c.loop-k-test.true c.loop-k.invariant.parts c.in_ok-see.ensures.kept c.in_ok-see.ensures.own;
  kept = λ x p. c.in_ok-see.ensures.kept x (c.loop-k.invariant.kept x p);
  less = omega (arith, c.in_ok-see.ensures.less, c.loop-k.invariant.less);
}

pub returns : goal.returns
returns c = record {
  search = c.loop-k.invariant.search;
  parts = seen_all c.args.resolved.now c.args.j c.loop-k.k c.types_at-types.result.now c.loop-k.seen c.types_at-types.ensures.value c.loop-k-test.false c.loop-k.invariant.parts;
  kept = c.loop-k.invariant.kept;
  less = c.loop-k.invariant.less;
}
