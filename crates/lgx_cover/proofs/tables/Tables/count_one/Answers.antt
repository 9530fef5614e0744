use Rattle.std.proofs.Common.{◌≡◌, sym, ap, ◌∙◌, arith}
use Rattle.std.proofs.lemmas.Result.{on_ok_weaker}
use Rattle.lgx_cover.specs.TableView.{TableView}
use Rattle.lgx_cover.specs.Counts.{in_version}
use Rattle.lgx_cover.specs.Tables.{version_at}
use Rattle.lgx_cover.proofs.Found.{found_table}
use Rattle.lgx_cover.proofs.Counted.{few_in_version, tables_counted, read_table, read_counted}
use Rattle.lgx_cover.proofs.tables.Tables.count_one.Goals as goal

pub count-requires : goal.count-requires
count-requires c =
    let tables = c.args.self.now.tables.items in
    let current = c.args.self.now.current.items in
    let k = c.in-Some.place in
    let begun = c.requires.room.0 in
    let all = c.requires.room.1 in
    let kept = c.requires.room.2 in
    let room = c.requires.room.3 in
    let found = found_table tables current begun all c.args.x.program k kept (sym c.in-Some.ensures) in
    let few = few_in_version (version_at tables k) all in
    record { room = (in_version (version_at tables k) all, read_counted tables current begun all k c.index_mut.result.now kept found.below c.index_mut.ensures.value, omega arith) }

pub returns-in-Some : goal.returns-in-Some
returns-in-Some c = λ begun all h.
    let tables = c.args.self.now.tables.items in
    let current = c.args.self.now.current.items in
    let k = c.in-Some.place in
    let t = c.index_mut.result.now in
    let found = found_table tables current begun all c.args.x.program k h (sym c.in-Some.ensures) in
    let version : c.count.new.self.version ≡ version_at tables k = c.count.ensures.version ∙ ap (λ (u : TableView). u.version) (read_table tables k t found.below c.index_mut.ensures.value) in
    on_ok_weaker c.count.result (λ counted. tables_counted tables current begun all c.args.x k c.count.new.self h (sym c.in-Some.ensures) version counted) (c.count.ensures.counted (in_version (version_at tables k) all) (read_counted tables current begun all k t h found.below c.index_mut.ensures.value))
