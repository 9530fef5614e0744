-- A begin more in the tables.
use Rattle.std.proofs.Common.{◌≡◌, ℕ, ◌+◌, ◌<◌, List, [], ◌∷◌, ◌++◌, length, Bool, true, false, cond, ◌||◌, nat_eq, if◌then◌else◌, Option, Some, None, inl, inr, refl, sym, ap, ◌∙◌, subst, subst₂, append-nil, length-append, arith}
use Rattle.std.specs.Prelude.{slice_index_or}
use Rattle.std.proofs.Math.Seq.{get_or-append_seam}
use Rattle.std.proofs.lemmas.Bool.{cases_lt, both_ways, eqb-true, or_parts}
use Rattle.std.proofs.lemmas.List.{get_or_append_left, map-append}
use Rattle.std.proofs.lemmas.List.Folds.{list_any-append}
use Rattle.lgx_engine.specs.declared.place.Execution.{Execution}
use Rattle.lgx_cover.specs.declared.version.Version.{Version}
use Rattle.lgx_cover.specs.declared.row.Counts.{Counts}
use Rattle.lgx_cover.specs.TableView.{TableView, no_table}
use Rattle.lgx_cover.specs.Executions.{Occurrence, latest}
use Rattle.lgx_cover.specs.Counts.{is_version, once, in_version}
use Rattle.lgx_cover.specs.Tables.{version_at, rows_at, versions_of, has, IsRowOf, IsTableOf, IsPlaceOf, AreTablesOf}
use Rattle.lgx_cover.proofs.Onces.{same_version, own_version, once_more}
use Rattle.lgx_cover.proofs.Lookups.{none_at, some_at}
use Rattle.lgx_cover.proofs.Found.{latest_more}

-- the table of the present version of one program is known anew
abbrev pub IsSetAt : List (Option ℕ) → List (Option ℕ) → ℕ → ℕ → Type 0
IsSetAt old new q k = (p : ℕ) → slice_index_or new p None ≡ (if nat_eq p q then Some k else slice_index_or old p None)

-- ---- the version that a program begins with has this table

module _ (tables : List TableView) (old new : List (Option ℕ)) (begun : List Version) (v : Version) (k : ℕ) (before : (q : ℕ) → IsPlaceOf tables q (latest q begun) (slice_index_or old q None)) (below : k < length tables) (at : version_at tables k ≡ v) (set : IsSetAt old new v.program k) where
  place_by : (q : ℕ) (b : Bool) → nat_eq q v.program ≡ b → IsPlaceOf tables q (if b then Some v.number else latest q begun) (if b then Some k else slice_index_or old q None)
  place_by q true e =
      let program : Version = record { program = q; number = v.number } in
      let as_program : v ≡ program = ap (λ (p : ℕ). record { program = p; number = v.number }) (sym (eqb-true q v.program e)) in
      (k, refl, below, at ∙ as_program)
  place_by q false e = before q

  pub place_after : (q : ℕ) → IsPlaceOf tables q (latest q (begun ++ v ∷ [])) (slice_index_or new q None)
  place_after q =
      subst₂ (λ (o place : Option ℕ). IsPlaceOf tables q o place) (sym (latest_more q begun v)) (sym (set q)) (place_by q (nat_eq q v.program) refl)

-- ---- a version that there is a table of

pub tables_begun_again : (tables : List TableView) (old new : List (Option ℕ)) (begun : List Version) (all : List Occurrence) (v : Version) (k : ℕ)
    → AreTablesOf tables old begun all → k < length tables → is_version (version_at tables k) v ≡ true → IsSetAt old new v.program k → AreTablesOf tables new (begun ++ v ∷ []) all
tables_begun_again tables old new begun all v k is below found set =
    let there : has (once begun) v ≡ true = subst (λ (vs : List Version). has vs v ≡ true) is.versions (some_at tables v k below found) in
    record {
      versions = is.versions ∙ sym (once_more begun v ∙ (ap (λ b. once begun ++ cond b [] (v ∷ [])) there ∙ append-nil (once begun)));
      distinct = is.distinct;
      known = place_after tables old new begun v k is.known below (same_version (version_at tables k) v found) set;
      counted = is.counted;
      elsewhere = is.elsewhere;
    }

-- ---- a version that there is no table of

no_rows : IsRowOf [] []
no_rows = record { end = refl; counted = λ l. refl }

no_tables : IsTableOf [] []
no_tables = record { end = refl; rows_are = λ r. no_rows }

module _ (tables : List TableView) (old new : List (Option ℕ)) (begun : List Version) (all : List Occurrence) (v : Version) (t : TableView) (is : AreTablesOf tables old begun all) (none : has (versions_of tables) v ≡ false) (version : t.version ≡ v) (rows : t.rows ≡ []) (set : IsSetAt old new v.program (length tables)) where
  abbrev more : List TableView
  more = tables ++ t ∷ []

  abbrev last : ℕ
  last = length tables

  before : (i : ℕ) → i < length tables → slice_index_or more i no_table ≡ slice_index_or tables i no_table
  before i h = get_or_append_left tables (t ∷ []) no_table i h

  behind : slice_index_or more last no_table ≡ t
  behind = get_or-append_seam tables t [] no_table

  version_before : (i : ℕ) → i < length tables → version_at more i ≡ version_at tables i
  version_before i h = ap (λ (u : TableView). u.version) (before i h)

  version_behind : version_at more last ≡ v
  version_behind = ap (λ (u : TableView). u.version) behind ∙ version

  longer : length more ≡ length tables + 1
  longer = omega (arith, length-append tables (t ∷ []))

  -- one of those before, or the last
  by_place : (P : ℕ → Type 0) → ((i : ℕ) → i < length tables → P i) → P last → (i : ℕ) → i < length more → P i
  by_place P f p i h = elim (cases_lt i (length tables)) [
    | inl g ↦ f i g
    | inr g ↦ subst P (let e = longer in let same : last ≡ i = omega arith in same) p
  ]

  versions_more : versions_of more ≡ once (begun ++ v ∷ [])
  versions_more =
      let new_there : has (once begun) v ≡ false = subst (λ (vs : List Version). has vs v ≡ false) is.versions none in
      map-append (λ (u : TableView). u.version) tables (t ∷ [])
      ∙ (ap (λ vs. vs ++ t.version ∷ []) is.versions ∙ (ap (λ (w : Version). once begun ++ w ∷ []) version ∙ sym (once_more begun v ∙ ap (λ b. once begun ++ cond b [] (v ∷ [])) new_there)))

  -- no table before the last is of its version
  apart : (i : ℕ) → i < length tables → is_version (version_at more i) v ≡ false
  apart i h = subst (λ (w : Version). is_version w v ≡ false) (sym (version_before i h)) (none_at tables v i none h)

  distinct_before : (i : ℕ) → i < length tables → (j : ℕ) → j < length more → is_version (version_at more i) (version_at more j) ≡ true → i ≡ j
  distinct_before i h =
      by_place (λ (j : ℕ). is_version (version_at more i) (version_at more j) ≡ true → i ≡ j)
      (λ j g e. is.distinct i j h g (subst₂ (λ (x y : Version). is_version x y ≡ true) (version_before i h) (version_before j g) e))
      (λ e. absurd (both_ways (is_version (version_at more i) v) (apart i h) (subst (λ (w : Version). is_version (version_at more i) w ≡ true) version_behind e)))

  distinct_behind : (j : ℕ) → j < length more → is_version (version_at more last) (version_at more j) ≡ true → last ≡ j
  distinct_behind =
      by_place (λ (j : ℕ). is_version (version_at more last) (version_at more j) ≡ true → last ≡ j)
      (λ j g e.
      let same : v ≡ version_at more j = same_version v (version_at more j) (subst (λ (w : Version). is_version w (version_at more j) ≡ true) version_behind e) in
      absurd (both_ways (is_version (version_at more j) v) (apart j g) (subst (λ (w : Version). is_version w v ≡ true) same (own_version v))))
      (λ e. refl)

  distinct_more : (i j : ℕ) → i < length more → j < length more → is_version (version_at more i) (version_at more j) ≡ true → i ≡ j
  distinct_more i j h g =
      by_place (λ (i : ℕ). is_version (version_at more i) (version_at more j) ≡ true → i ≡ j) (λ i h. distinct_before i h j g) (distinct_behind j g) i h

  place_more : (q : ℕ) (o place : Option ℕ) → IsPlaceOf tables q o place → IsPlaceOf more q o place
  place_more q None place is = is
  place_more q (Some n) place is =
      (is.0, is.1, (let e = longer in let h : is.0 < length tables = is.2 in let g : is.0 < length more = omega arith in g), version_before is.0 is.2 ∙ is.3)

  counted_more : (k : ℕ) → k < length more → IsTableOf (rows_at more k) (in_version (version_at more k) all)
  counted_more =
      by_place (λ (k : ℕ). IsTableOf (rows_at more k) (in_version (version_at more k) all))
      (λ k h. subst (λ (u : TableView). IsTableOf u.rows (in_version u.version all)) (sym (before k h)) (is.counted k h))
      (subst₂ (λ (rs : List (List Counts)) (xs : List Execution). IsTableOf rs xs) (sym (ap (λ (u : TableView). u.rows) behind ∙ rows)) (sym (ap (λ (w : Version). in_version w all) version_behind ∙ is.elsewhere v none)) no_tables)

  elsewhere_more : (w : Version) → has (versions_of more) w ≡ false → in_version w all ≡ []
  elsewhere_more w h =
      let parts : (has (versions_of tables) w || has (t.version ∷ []) w) ≡ false =
      sym (list_any-append (λ (u : Version). is_version u w) (versions_of tables) (t.version ∷ [])) ∙ (ap (λ (vs : List Version). has vs w) (sym (map-append (λ (u : TableView). u.version) tables (t ∷ []))) ∙ h)
      in
      is.elsewhere w (or_parts (has (versions_of tables) w) (has (t.version ∷ []) w) parts).0

  pub tables_begun : AreTablesOf more new (begun ++ v ∷ []) all
  tables_begun = record {
    versions = versions_more;
    distinct = distinct_more;
    known = place_after more old new begun v last (λ q. place_more q (latest q begun) (slice_index_or old q None) (is.known q)) (let e = longer in omega arith) version_behind set;
    counted = counted_more;
    elsewhere = elsewhere_more;
  }

-- ---- nothing yet

pub no_begins : AreTablesOf [] [] [] []
no_begins = record {
  versions = refl;
  distinct = λ i j h g e. absurd (omega arith);
  known = λ q. refl;
  counted = λ k h. absurd (omega arith);
  elsewhere = λ v h. refl;
}
