use Rattle.std.proofs.Common.{refl, arith}
use Rattle.lgx_num.proofs.ByteTable.{agree_below, from_table}
use Rattle.lgx_tags.specs.Parts.{is_mark}
use Rattle.lgx_tags.specs.declared.part.TheConstants.{KINDS}
use Rattle.lgx_tags.proofs.part.is_mark.Goals as goal

pub returns : goal.returns
unfolding agree_below
returns c = from_table KINDS 1 is_mark c.args.byte (omega arith) refl
