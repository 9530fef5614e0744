use Rattle.std.proofs.Common.{◌≡◌, [], ◌∷◌, ◌++◌, Result, Ok, Err, OnErr, slice_set, slice_index_or, ap, ◌∙◌, arith}
use Rattle.lgx_journal.proofs.ReadLanes.{item_default, set_twice, set_again}
use Rattle.lgx_journal.proofs.script.put_action.Goals as goal

on_err : {T E P : Type 0} (r : Result T E) → P → OnErr r P
on_err (Ok x) h = tt
on_err (Err e) h = h

pub returns-clause-put : goal.returns-clause-put
returns-clause-put c =
    let old = c.args.lanes.now.items in
    let taken : c.into_vec-items.result.items ≡ slice_index_or old c.args.lane [] = c.into_vec-items.ensures ∙ c.replace.ensures.value ∙ c.index_mut.ensures.value ∙ item_default old c.args.lane c.index_mut.result.now [] (omega (arith, c.requires)) in
    let pushed : c.push-pushed.new.self.items ≡ c.into_vec-items.result.items ++ c.args.timed ∷ [] = c.in_ok-pushed.ensures.items in
    set_twice old c.args.lane c.replace.new.dest c.of-2.result ∙ ap (slice_set old c.args.lane) (c.of-2.ensures ∙ pushed ∙ ap (λ ts. ts ++ c.args.timed ∷ []) taken)

pub returns-in_err-pushed-clause-same : goal.returns-in_err-pushed-clause-same
returns-in_err-pushed-clause-same c =
    let old = c.args.lanes.now.items in
    let taken : c.into_vec-items.result.items ≡ slice_index_or old c.args.lane c.index_mut.result.now = c.into_vec-items.ensures ∙ c.replace.ensures.value ∙ c.index_mut.ensures.value in
    let back : slice_set (slice_set old c.args.lane c.replace.new.dest) c.args.lane c.of-2.result ≡ old = set_twice old c.args.lane c.replace.new.dest c.of-2.result ∙ set_again old c.args.lane c.of-2.result c.index_mut.result.now (c.of-2.ensures ∙ c.in_err-pushed.ensures.items ∙ taken) (omega (arith, c.requires)) in
    on_err c.from_residual.result back
