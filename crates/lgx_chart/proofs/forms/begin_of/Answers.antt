use Rattle.std.proofs.Common.{sym, arith}
use Rattle.lgx_chart.proofs.WordLists.{begin_other}
use Rattle.lgx_chart.proofs.forms.begin_of.Goals as goal

pub returns-in-len4-up : goal.returns-in-len4-up
returns-in-len4-up c = sym (begin_other (λ r. r.now) c.args.words.now (omega arith))

pub returns-in-len1 : goal.returns-in-len1
returns-in-len1 c = sym (begin_other (λ r. r.now) c.args.words.now (omega arith))

pub returns-in-len2 : goal.returns-in-len2
returns-in-len2 c = sym (begin_other (λ r. r.now) c.args.words.now (omega arith))
