use Rattle.std.proofs.Common.{◌≡◌, ◌++◌, ◌∷◌, [], List, length, vec_len, refl, sym, ap, ◌∙◌, subst, rules}
use Rattle.std.proofs.lemmas.Result.{on_ok_weaker}
use Rattle.lgx_cover.specs.TableView.{TableView}
use Rattle.lgx_cover.specs.Tables.{AreTablesOf}
use Rattle.lgx_cover.proofs.Begun.{IsSetAt, tables_begun, tables_begun_again}
use Rattle.lgx_cover.proofs.tables.Tables.begin.Goals as goal

pub returns-in-Some : goal.returns-in-Some
returns-in-Some c = λ begun all h.
    let tables = c.args.self.now.tables.items in
    let old = c.args.self.now.current.items in
    let new = c.set_place.new.self.current.items in
    let v = c.args.version in
    on_ok_weaker c.set_place.result (λ set. subst (λ ts. AreTablesOf ts.items new (begun ++ v ∷ []) all) (sym c.set_place.ensures.tables) (tables_begun_again tables old new begun all v c.in-Some.place h c.in-Some.ensures.below c.in-Some.ensures.found set)) c.set_place.ensures.current

pub returns-in_ok-push-in-None : goal.returns-in_ok-push-in-None
returns-in_ok-push-in-None c = λ begun all h.
    let tables = c.args.self.now.tables.items in
    let old = c.args.self.now.current.items in
    let new = c.set_place-in-None.new.self.current.items in
    let v = c.args.version in
    let t = c.new.result in
    let none = c.in-None.ensures.none refl in
    let len : vec_len c.args.self.now.tables ≡ length tables = search rules in
    let place : c.len-place.result ≡ length tables = c.len-place.ensures ∙ len in
    let all_tables : c.set_place-in-None.new.self.tables.items ≡ tables ++ t ∷ [] = ap (λ ts. ts.items) c.set_place-in-None.ensures.tables ∙ c.in_ok-push-in-None.ensures.items in
    on_ok_weaker c.set_place-in-None.result (λ set. subst (λ (ts : List TableView). AreTablesOf ts new (begun ++ v ∷ []) all) (sym all_tables) (tables_begun tables old new begun all v t h none c.new.ensures.version c.new.ensures.rows (subst (λ k. IsSetAt old new v.program k) place set))) c.set_place-in-None.ensures.current
