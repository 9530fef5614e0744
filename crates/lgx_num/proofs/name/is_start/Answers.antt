use Rattle.std.proofs.Common.{refl, arith}
use Rattle.lgx_num.specs.Name.{is_start}
use Rattle.lgx_num.specs.declared.name.TheConstants.{KINDS}
use Rattle.lgx_num.proofs.ByteTable.{agree_below, from_table}
use Rattle.lgx_num.proofs.name.is_start.Goals as goal

pub returns : goal.returns
unfolding agree_below
returns c = from_table KINDS 2 is_start c.args.byte (omega arith) refl
