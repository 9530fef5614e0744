use Rattle.std.proofs.Common.{refl, arith}
use Rattle.lgx_rung.specs.Tokens.{is_blank}
use Rattle.lgx_neutral.specs.declared.bytes.TheConstants.{KINDS}
use Rattle.lgx_num.proofs.ByteTable.{agree_below, from_table}
use Rattle.lgx_neutral.proofs.bytes.is_blank.Goals as goal

pub returns : goal.returns
unfolding agree_below
returns c = from_table KINDS 4 is_blank c.args.byte (omega arith) refl
