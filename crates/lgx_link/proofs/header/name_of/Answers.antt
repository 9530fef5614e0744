use Rattle.lgx_num.specs.Name.{is_name}
use Rattle.lgx_journal.proofs.Verbs.{name_is}
use Rattle.lgx_link.proofs.header.name_of.Goals as goal

pub returns : goal.returns
returns c = name_is c.read.result c.args.word.now (is_name c.args.word.now) c.read.ensures.found c.read.ensures.bytes
