use Rattle.std.proofs.Common.{arith, ap, sym, ◌∙◌, refl}
use Rattle.lgx_tags.proofs.Spans.{none_laid}
use Rattle.lgx_tags.proofs.Firsts.{none_first}
use Rattle.lgx_tags.specs.Tables.{keys_of}
use Rattle.lgx_tags.proofs.declared.Declared.new.Goals as goal

pub invariant_of-result : goal.invariant_of-result
invariant_of-result c = record {
  admitted = rw c.new-2.ensures.items tt;
  keyed = c.new.ensures.empty ∙ sym (ap keys_of c.new-2.ensures.items);
  counted = rw c.new-2.ensures.items (sym (none_laid c.args.types c.args.programs));
  room = omega arith;
  few = rw c.new-2.ensures.items (omega arith);
  owned = rw c.new-2.ensures.items refl;
  firsts = rw c.new-2.ensures.items none_first;
}
