-- An execution more in the tables.
use Rattle.std.proofs.Common.{◌≡◌, ℕ, ◌<◌, ◌≤◌, List, [], ◌∷◌, ◌++◌, length, map, filter, Bool, true, false, cond, Option, Some, None, inl, inr, sym, ap, ◌∙◌, subst, subst₂, append-nil, length-set, arith}
use Rattle.std.specs.Prelude.{slice_index_or, slice_set, option_map, option_to_list}
use Rattle.std.proofs.Math.Seq.{map-set_same}
use Rattle.std.proofs.lemmas.Bool.{cases_eq, false_from_ne_true, both_ways}
use Rattle.std.proofs.lemmas.List.{get_or-set_same, get_or-set_other, get_or_default, map-append, length-map}
use Rattle.std.proofs.lemmas.List.Elements.{filter-append}
use Rattle.std.proofs.lemmas.List.Sums.{length-filter, count_by-le-length}
use Rattle.lgx_engine.specs.declared.place.Execution.{Execution}
use Rattle.lgx_steps.specs.declared.executing.Executed.{Executed}
use Rattle.lgx_cover.specs.declared.version.Version.{Version}
use Rattle.lgx_cover.specs.declared.row.Counts.{Counts}
use Rattle.lgx_cover.specs.TableView.{TableView, no_table}
use Rattle.lgx_cover.specs.Executions.{Occurrence, occurrence, latest, occurrences}
use Rattle.lgx_cover.specs.Counts.{is_version, in_version}
use Rattle.lgx_cover.specs.Tables.{version_at, rows_at, versions_of, has, IsTableOf, IsPlaceOf, AreTablesOf}
use Rattle.lgx_cover.proofs.Onces.{same_version, own_version}
use Rattle.lgx_cover.proofs.Lookups.{none_at}
use Rattle.lgx_cover.proofs.Found.{found_table}

-- ---- the executions of a version

version_more : (v : Version) (all : List Occurrence) (o : Occurrence) (b : Bool) → is_version v o.version ≡ b → in_version v (all ++ o ∷ []) ≡ in_version v all ++ map (λ (p : Occurrence). p.execution) (cond b (o ∷ []) [])
version_more v all o b is =
    ap (map (λ (p : Occurrence). p.execution)) (filter-append (λ (p : Occurrence). is_version v p.version) all (o ∷ []) ∙ ap (λ t. filter (λ (p : Occurrence). is_version v p.version) all ++ cond t (o ∷ []) []) is)
    ∙ map-append (λ (p : Occurrence). p.execution) (filter (λ (p : Occurrence). is_version v p.version) all) (cond b (o ∷ []) [])

pub same_version_more : (v : Version) (all : List Occurrence) (o : Occurrence) → is_version v o.version ≡ true → in_version v (all ++ o ∷ []) ≡ in_version v all ++ o.execution ∷ []
same_version_more v all o is = version_more v all o true is

pub other_version_more : (v : Version) (all : List Occurrence) (o : Occurrence) → is_version v o.version ≡ false → in_version v (all ++ o ∷ []) ≡ in_version v all
other_version_more v all o is = version_more v all o false is ∙ append-nil (in_version v all)

pub few_in_version : (v : Version) (all : List Occurrence) → length (in_version v all) ≤ length all
few_in_version v all =
    let kept = length-map (filter (λ (o : Occurrence). is_version v o.version) all) (λ (o : Occurrence). o.execution) in
    let passed = length-filter (λ (o : Occurrence). is_version v o.version) all in
    let few = count_by-le-length (λ (o : Occurrence). is_version v o.version) all in
    omega (arith, kept, passed, few)

-- ---- what is executed

pub one_occurrence : (begun : List Version) (x : Executed) (n : ℕ) → latest x.program begun ≡ Some n → occurrences begun (Some x) ≡ occurrence x n ∷ []
one_occurrence begun x n last = ap (λ o. option_to_list (option_map (occurrence x) o)) last

pub no_occurrence : (begun : List Version) (x : Executed) → latest x.program begun ≡ None → occurrences begun (Some x) ≡ []
no_occurrence begun x last = ap (λ o. option_to_list (option_map (occurrence x) o)) last

-- ---- a table is replaced by one of the same version

module _ (tables : List TableView) (k : ℕ) (t : TableView) (below : k < length tables) (same : t.version ≡ version_at tables k) where
  abbrev after : List TableView
  after = slice_set tables k t

  here : slice_index_or after k no_table ≡ t
  here = get_or-set_same tables k t no_table below

  there : (i : ℕ) → (i ≡ k → ⊥) → slice_index_or after i no_table ≡ slice_index_or tables i no_table
  there i other = get_or-set_other tables k i t no_table other

  pub same_versions : versions_of after ≡ versions_of tables
  same_versions = map-set_same (λ (u : TableView). u.version) tables k t no_table same

  pub same_version_at : (i : ℕ) → version_at after i ≡ version_at tables i
  same_version_at i = elim (cases_eq i k) [
    | inl e ↦ subst (λ (j : ℕ). version_at after j ≡ version_at tables j) (sym e) (ap (λ (u : TableView). u.version) here ∙ same)
    | inr other ↦ ap (λ (u : TableView). u.version) (there i other)
  ]

  pub same_place : (q : ℕ) (o place : Option ℕ) → IsPlaceOf tables q o place → IsPlaceOf after q o place
  same_place q None place is = is
  same_place q (Some n) place is =
      (is.0, is.1, subst (λ (m : ℕ). is.0 < m) (sym (length-set tables k t)) is.2, same_version_at is.0 ∙ is.3)

  pub same_end : length after ≡ length tables
  same_end = length-set tables k t

-- ---- the tables

module _ (tables : List TableView) (current : List (Option ℕ)) (begun : List Version) (all : List Occurrence) (o : Occurrence) (k : ℕ) (t : TableView) (is : AreTablesOf tables current begun all) (below : k < length tables) (at : version_at tables k ≡ o.version) (same : t.version ≡ version_at tables k) (now : IsTableOf t.rows (in_version (version_at tables k) all ++ o.execution ∷ [])) where
  abbrev written : List TableView
  written = slice_set tables k t

  -- another table's version has no execution more
  not_there : (i : ℕ) → i < length tables → (i ≡ k → ⊥) → is_version (version_at tables i) o.version ≡ false
  not_there i h other =
      false_from_ne_true (is_version (version_at tables i) o.version) (λ e. other (is.distinct i k h below (subst (λ (v : Version). is_version (version_at tables i) v ≡ true) (sym at) e)))

  counted_here : IsTableOf (rows_at written k) (in_version (version_at written k) (all ++ o ∷ []))
  counted_here =
      let own : is_version (version_at tables k) o.version ≡ true = subst (λ (v : Version). is_version (version_at tables k) v ≡ true) at (own_version (version_at tables k)) in
      let executions : in_version (version_at tables k) (all ++ o ∷ []) ≡ in_version (version_at tables k) all ++ o.execution ∷ [] = same_version_more (version_at tables k) all o own in
      let rows : rows_at written k ≡ t.rows = ap (λ (u : TableView). u.rows) (get_or-set_same tables k t no_table below) in
      subst₂ (λ (rows : List (List Counts)) (xs : List Execution). IsTableOf rows xs) (sym rows) (sym (ap (λ (v : Version). in_version v (all ++ o ∷ [])) (same_version_at tables k t below same k) ∙ executions)) now

  counted_there : (i : ℕ) → i < length tables → (i ≡ k → ⊥) → IsTableOf (rows_at written i) (in_version (version_at written i) (all ++ o ∷ []))
  counted_there i h other =
      let executions : in_version (version_at tables i) (all ++ o ∷ []) ≡ in_version (version_at tables i) all = other_version_more (version_at tables i) all o (not_there i h other) in
      let rows : rows_at written i ≡ rows_at tables i = ap (λ (u : TableView). u.rows) (get_or-set_other tables k i t no_table other) in
      subst₂ (λ (rows : List (List Counts)) (xs : List Execution). IsTableOf rows xs) (sym rows) (sym (ap (λ (v : Version). in_version v (all ++ o ∷ [])) (same_version_at tables k t below same i) ∙ executions)) (is.counted i h)

  counted_at : (i : ℕ) → i < length tables → IsTableOf (rows_at written i) (in_version (version_at written i) (all ++ o ∷ []))
  counted_at i h = elim (cases_eq i k) [
    | inl e ↦ subst (λ (j : ℕ). IsTableOf (rows_at written j) (in_version (version_at written j) (all ++ o ∷ []))) (sym e) counted_here
    | inr other ↦ counted_there i h other
  ]

  -- a version with no table isn't that of the execution
  nowhere : (v : Version) → has (versions_of tables) v ≡ false → in_version v (all ++ o ∷ []) ≡ []
  nowhere v none =
      let apart : is_version (version_at tables k) v ≡ false = none_at tables v k none below in
      let other : is_version v o.version ≡ false = false_from_ne_true (is_version v o.version) (λ e. both_ways (is_version (version_at tables k) v) apart (subst (λ (w : Version). is_version w v ≡ true) (sym (at ∙ sym (same_version v o.version e))) (own_version v))) in
      other_version_more v all o other ∙ is.elsewhere v none

  pub one_counted : AreTablesOf written current begun (all ++ o ∷ [])
  one_counted = record {
    versions = same_versions tables k t below same ∙ is.versions;
    distinct = λ i j h g e.
        let i_below : i < length tables = subst (λ (m : ℕ). i < m) (length-set tables k t) h in
        let j_below : j < length tables = subst (λ (m : ℕ). j < m) (length-set tables k t) g in
        is.distinct i j i_below j_below (subst₂ (λ (v w : Version). is_version v w ≡ true) (same_version_at tables k t below same i) (same_version_at tables k t below same j) e);
    known = λ q. same_place tables k t below same q (latest q begun) (slice_index_or current q None) (is.known q);
    counted = λ i h. counted_at i (subst (λ (m : ℕ). i < m) (length-set tables k t) h);
    elsewhere = λ v none. nowhere v (subst (λ (vs : List Version). has vs v ≡ false) (same_versions tables k t below same) none);
  }

pub tables_counted : (tables : List TableView) (current : List (Option ℕ)) (begun : List Version) (all : List Occurrence) (x : Executed) (k : ℕ) (t : TableView)
    → AreTablesOf tables current begun all → slice_index_or current x.program None ≡ Some k → t.version ≡ version_at tables k → IsTableOf t.rows (in_version (version_at tables k) all ++ x.execution ∷ [])
    → AreTablesOf (slice_set tables k t) current begun (all ++ occurrences begun (Some x))
tables_counted tables current begun all x k t is place same now =
    let f = found_table tables current begun all x.program k is place in
    subst (λ (os : List Occurrence). AreTablesOf (slice_set tables k t) current begun (all ++ os)) (sym (one_occurrence begun x f.number f.last)) (one_counted tables current begun all (occurrence x f.number) k t is f.below f.version same now)

pub nothing_counted : (tables : List TableView) (current : List (Option ℕ)) (begun : List Version) (all : List Occurrence) (x : Executed)
    → AreTablesOf tables current begun all → latest x.program begun ≡ None → AreTablesOf tables current begun (all ++ occurrences begun (Some x))
nothing_counted tables current begun all x is last =
    subst (λ (os : List Occurrence). AreTablesOf tables current begun os) (sym (ap (λ os. all ++ os) (no_occurrence begun x last) ∙ append-nil all)) is

-- ---- what is read

pub read_table : (tables : List TableView) (k : ℕ) (t : TableView) → k < length tables → t ≡ slice_index_or tables k t → t ≡ slice_index_or tables k no_table
read_table tables k t below read = read ∙ get_or_default tables k t no_table below

-- the table of the version that a program began with last has its counts
pub read_counted : (tables : List TableView) (current : List (Option ℕ)) (begun : List Version) (all : List Occurrence) (k : ℕ) (t : TableView) → AreTablesOf tables current begun all → k < length tables → t ≡ slice_index_or tables k t → IsTableOf t.rows (in_version (version_at tables k) all)
read_counted tables current begun all k t is below read =
    subst (λ (u : TableView). IsTableOf u.rows (in_version (version_at tables k) all)) (sym (read_table tables k t below read)) (is.counted k below)
