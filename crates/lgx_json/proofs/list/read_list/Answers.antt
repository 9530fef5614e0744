use Rattle.std.proofs.Common.{sym, arith}
use Rattle.serde_json.specs.View.{view}
use Rattle.spec_project.proofs.Lists.{not_a_list, list_too_short, list_too_long, list_of_elements, elements_are}
use Rattle.lgx_json.proofs.list.read_list.Goals as goal

pub returns-in_default-clause-reads : goal.returns-in_default-clause-reads
returns-in_default-clause-reads g c =
    rw c.here.ensures (not_a_list c.args.least c.args.most (g.R.Reader.judge c.args.reader.now) (view c.args.value.now) (sym c.in_default.ensures))

pub returns-then-values-least-clause-reads : goal.returns-then-values-least-clause-reads
returns-then-values-least-clause-reads g c =
    rw c.here-then-values-least.ensures (list_too_short c.args.least c.args.most (g.R.Reader.judge c.args.reader.now) c.in-Some.values.now (view c.args.value.now) (sym c.in-Some.ensures) (omega arith))

pub returns-then-values-most-clause-reads : goal.returns-then-values-most-clause-reads
returns-then-values-most-clause-reads g c =
    rw c.here-then-values-most.ensures (list_too_long c.args.least c.args.most (g.R.Reader.judge c.args.reader.now) c.in-Some.values.now (view c.args.value.now) (sym c.in-Some.ensures) (omega arith) (omega arith))

pub returns-clause-reads : goal.returns-clause-reads
returns-clause-reads g c =
    let vs = c.in-Some.values.now in
    let d = view c.args.value.now in
    let is = sym c.in-Some.ensures in
    rw (list_of_elements c.args.least c.args.most (g.R.Reader.judge c.args.reader.now) vs d is (omega arith) (omega arith), elements_are vs d is) c.read_elements.ensures.reads
