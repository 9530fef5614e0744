use Rattle.std.proofs.Common.{◌≡◌, ◌-◌, suc, length, sym, ◌∙◌, arith}
use Rattle.std.proofs.lemmas.Bool.Decides.{nat_tests}
use Rattle.lgx_journal.proofs.PutRuns.{put_joined, put_apart, last_count_at}
use Rattle.lgx_journal.proofs.runs.put_run.Goals as goal

pub joined-requires : goal.joined-requires
joined-requires c =
    let rs = c.args.runs.now.items in
    let at : suc (c.len-last.result - 1) ≡ length rs = grind (arith, nat_tests) in
    omega (arith, last_count_at rs (c.len-last.result - 1) c.index-before.result.now at c.index-before.ensures)

pub returns-in-Some-clause-items : goal.returns-in-Some-clause-items
returns-in-Some-clause-items c =
    let rs = c.args.runs.now.items in
    let at : suc (c.len-last.result - 1) ≡ length rs = grind (arith, nat_tests) in
    put_joined rs (c.len-last.result - 1) c.index-before.result.now c.args.run c.in-Some.whole at c.index-before.ensures (sym c.in-Some.ensures)

pub returns-in-None-clause-items : goal.returns-in-None-clause-items
returns-in-None-clause-items c =
    let rs = c.args.runs.now.items in
    let at : suc (c.len-last.result - 1) ≡ length rs = grind (arith, nat_tests) in
    c.push_reserved-in-None.ensures.items ∙ put_apart rs (c.len-last.result - 1) c.index-before.result.now c.args.run at c.index-before.ensures (sym c.in-None.ensures)
