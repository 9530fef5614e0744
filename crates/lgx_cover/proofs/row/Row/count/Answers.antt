use Rattle.std.proofs.Common.{◌≡◌, ◌∷◌, ◌++◌, [], List, set, sym, ap, ◌∙◌, subst, arith}
use Rattle.lgx_cover.specs.declared.row.Counts.{Counts}
use Rattle.lgx_cover.specs.Counts.{counts, one_more}
use Rattle.lgx_cover.specs.Tables.{IsRowOf}
use Rattle.lgx_cover.proofs.Rows.{counted_more, few_counts, read_counts, row_more}
use Rattle.lgx_cover.proofs.row.Row.count.Goals as goal

pub one_more-requires : goal.one_more-requires
one_more-requires c =
    let xs = c.requires.room.0 in
    let row : IsRowOf c.self.inside.counts.items xs = subst (λ (q : List Counts). IsRowOf q xs) (sym c.self.view_is) c.requires.room.1 in
    let read : c.index-counts.result.now ≡ counts c.args.x.left xs = read_counts c.self.inside.counts.items c.grow.new.list.items xs c.args.x c.index-counts.result.now row c.in_ok-grow.ensures.items c.in_ok-grow.ensures.has c.index-counts.ensures in
    let true_is = ap (λ (k : Counts). k.with_true) read in
    let false_is = ap (λ (k : Counts). k.with_false) read in
    let few = few_counts c.args.x.left xs in
    let true_few = few.0 in
    let false_few = few.1 in
    let room = c.requires.room.2 in
    (omega arith, omega arith)

pub returns : goal.returns
returns c = λ xs h.
    let row : IsRowOf c.self.inside.counts.items xs = subst (λ (q : List Counts). IsRowOf q xs) (sym c.self.view_is) h in
    let read : c.index-counts.result.now ≡ counts c.args.x.left xs = read_counts c.self.inside.counts.items c.grow.new.list.items xs c.args.x c.index-counts.result.now row c.in_ok-grow.ensures.items c.in_ok-grow.ensures.has c.index-counts.ensures in
    let now : c.one_more.result ≡ counts c.args.x.left (xs ++ c.args.x ∷ []) = c.one_more.ensures ∙ (ap (λ (k : Counts). one_more k c.args.x.on) read ∙ sym (counted_more xs c.args.x)) in
    subst (λ (l : List Counts). IsRowOf (set l c.args.x.left c.one_more.result) (xs ++ c.args.x ∷ [])) (sym c.in_ok-grow.ensures.items) (row_more c.self.inside.counts.items xs c.args.x c.one_more.result row now)
