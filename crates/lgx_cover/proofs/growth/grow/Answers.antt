use Rattle.std.proofs.Common.{◌≡◌, ◌-◌, ◌∷◌, ◌++◌, [], length, take, replicate, vec_len, ap, ◌∙◌, rules, arith}
use Rattle.lgx_cover.proofs.Ends.{grown_by}
use Rattle.lgx_cover.proofs.growth.grow.Goals as goal

pub returns-in_ok-push-clause-items : goal.returns-in_ok-push-clause-items
returns-in_ok-push-clause-items g c =
    let xs = c.args.list.now.items in
    let len : vec_len c.args.list.now ≡ length xs = search rules in
    c.in_ok-push.ensures.items
    ∙ (ap (λ ys. ys ++ c.args.none ∷ []) (c.in_ok-resize.ensures.items ∙ ap (λ n. take c.args.place xs ++ replicate (c.args.place - n) c.args.none) len)
    ∙ grown_by xs c.args.place c.args.none (omega arith))
