use Rattle.std.proofs.Common.{rules}
use Rattle.lgx_neutral.specs.Lexing.{token_of}
use Rattle.lgx_neutral.specs.Reading.{reading}
use Rattle.lgx_neutral.proofs.Answers.{whole_fits, still_fits}
use Rattle.lgx_neutral.proofs.read.take.Goals as goal

pub returns-in-Some-clause-fit : goal.returns-in-Some-clause-fit
returns-in-Some-clause-fit c =
    whole_fits c.args.reader.now c.in-Some.op c.in-Some.operands.now (reading c.take_instruction.new.self) (search rules) c.requires.fit (search rules)

pub returns-clause-fit : goal.returns-clause-fit
returns-clause-fit c = still_fits (reading c.args.reader.now) (reading c.take.new.self) (token_of c.args.token) c.take.result c.requires.fit c.take.ensures.takes
