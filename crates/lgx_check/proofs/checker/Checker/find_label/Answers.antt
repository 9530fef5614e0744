use Rattle.spec_language.specs.Checked.{label_of}
use Rattle.lgx_check.proofs.Labels.{label_found}
use Rattle.lgx_check.proofs.checker.Checker.find_label.Goals as goal

pub returns-in-Some : goal.returns-in-Some
returns-in-Some c = label_found _ (label_of c.args.self.now.labels c.args.text.now) c.in-Some.ensures

pub returns-in-None : goal.returns-in-None
returns-in-None c = label_found _ (label_of c.args.self.now.labels c.args.text.now) c.in-None.ensures
