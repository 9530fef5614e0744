use Rattle.std.proofs.Common.{◌-◌, ◌/◌, ◌%◌, ◌+◌, ◌++◌, [], ◌∷◌, sym, ap, ◌∙◌, append-nil, append_assoc, arith}
use Rattle.lgx_chart.specs.Vcd.{binary}
use Rattle.lgx_chart.proofs.Texts.{binary_none, binary_step}
use Rattle.lgx_chart.proofs.vcd.+push_binary.Goals as goal

pub returns-then-count-eq0 : goal.returns-then-count-eq0
returns-then-count-eq0 t c =
    let before = c.args.text.now.items in
    sym (ap (λ x. before ++ x) (binary_none c.args.count c.args.number (omega arith)) ∙ append-nil before)

pub returns : goal.returns
returns t c =
    let before = c.args.text.now.items in
    let digit = (48 + c.args.number % 2) ∷ [] in
    let last = c.in_ok-push.ensures.items in
    let front = c.in_ok-push_binary.ensures in
    let step = binary_step c.args.count c.args.number (omega arith) in
    let joined = append_assoc before (binary (c.args.count - 1) (c.args.number / 2)) digit in
    cc
