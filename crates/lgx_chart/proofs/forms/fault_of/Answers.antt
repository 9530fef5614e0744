use Rattle.std.proofs.Common.{sym, arith}
use Rattle.lgx_chart.proofs.WordLists.{fault_other}
use Rattle.lgx_chart.proofs.forms.fault_of.Goals as goal

pub returns-in-len5-up : goal.returns-in-len5-up
returns-in-len5-up c = sym (fault_other (λ r. r.now) c.args.words.now (omega arith))

pub returns-in-len1 : goal.returns-in-len1
returns-in-len1 c = sym (fault_other (λ r. r.now) c.args.words.now (omega arith))

pub returns-in-len2 : goal.returns-in-len2
returns-in-len2 c = sym (fault_other (λ r. r.now) c.args.words.now (omega arith))

pub returns-in-len3 : goal.returns-in-len3
returns-in-len3 c = sym (fault_other (λ r. r.now) c.args.words.now (omega arith))
