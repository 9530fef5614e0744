use Rattle.std.proofs.Common.{◌≡◌, ◌<◌, ◌∷◌, ◌++◌, [], List, length, set, sym, ap, ◌∙◌, subst, arith}
use Rattle.std.proofs.lemmas.Result.{on_ok_weaker}
use Rattle.lgx_cover.specs.declared.row.Counts.{Counts}
use Rattle.lgx_cover.specs.TableView.{TableView}
use Rattle.lgx_cover.specs.Counts.{in_routine}
use Rattle.lgx_cover.specs.Tables.{IsTableOf, grown}
use Rattle.lgx_cover.proofs.TableRows.{few_in_routine, read_row, table_more}
use Rattle.lgx_cover.proofs.table.Table.count.Goals as goal

pub count-requires : goal.count-requires
count-requires c =
    let rows = c.args.self.now.rows in
    let inside = c.self.inside.rows.items in
    let r = c.args.x.routine in
    let xs = c.requires.room.0 in
    let same : inside ≡ c.grow.new.self.rows = ap (λ (t : TableView). t.rows) c.self.view_is in
    let has : r < length inside = subst (λ (l : List (List Counts)). r < length l) (sym same) c.in_ok-grow.ensures.has in
    let few = few_in_routine r xs in
    let room = c.requires.room.2 in
    record { room = (in_routine r xs, read_row rows inside xs r c.index_mut.result.now c.requires.room.1 (same ∙ c.in_ok-grow.ensures.rows) has c.index_mut.ensures.value, omega arith) }

pub returns-clause-counted : goal.returns-clause-counted
returns-clause-counted c = λ xs h.
    let rows = c.args.self.now.rows in
    let inside = c.self.inside.rows.items in
    let r = c.args.x.routine in
    let same : inside ≡ c.grow.new.self.rows = ap (λ (t : TableView). t.rows) c.self.view_is in
    let grew : inside ≡ grown rows r [] = same ∙ c.in_ok-grow.ensures.rows in
    let has : r < length inside = subst (λ (l : List (List Counts)). r < length l) (sym same) c.in_ok-grow.ensures.has in
    let row = read_row rows inside xs r c.index_mut.result.now h grew has c.index_mut.ensures.value in
    on_ok_weaker c.count.result (λ more. subst (λ (l : List (List Counts)). IsTableOf (set l r c.count.new.self) (xs ++ c.args.x ∷ [])) (sym grew) (table_more rows xs c.args.x c.count.new.self h more)) (c.count.ensures (in_routine r xs) row)
