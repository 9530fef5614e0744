-- By what was found.
use Rattle.std.proofs.Common.{subst}
use Rattle.lgx_explore.specs.Found.{Tells}
use Rattle.lgx_walker.specs.Walks.{walked}
use Rattle.lgx_walker.proofs.Telling.{few_found, never_holds, told_shown}
use Rattle.lgx_walker.proofs.answer.told.Goals as goal

pub journal_with-requires : goal.journal_with-requires
journal_with-requires c = few_found c.args.script.now c.in-Shown.walker c.in-Shown.made c.in-Shown.line c.args.found c.in-Shown.is c.requires

pub returns-in-Never : goal.returns-in-Never
returns-in-Never c = λ p q valid proper tells. never_holds p c.args.script.now q (subst (Tells walked p c.args.script.now q) c.in-Never.is tells)

pub returns-in_ok-journal-in-Shown : goal.returns-in_ok-journal-in-Shown
returns-in_ok-journal-in-Shown c = λ p q valid proper tells. told_shown p c.args.script.now q c.in-Shown.walker c.in-Shown.made c.in-Shown.line c.args.found _ c.in-Shown.is tells c.in_ok-journal-in-Shown.ensures
