use Rattle.lgx_check.proofs.Names.{read_name}
use Rattle.lgx_check.proofs.name.name_of.Goals as goal

pub returns : goal.returns
returns c = read_name c.args.text.now _ c.read.ensures.found c.read.ensures.bytes
