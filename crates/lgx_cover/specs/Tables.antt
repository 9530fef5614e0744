-- What it means that tables keep the counts of executions: beyond the end of a list all counts are zeros.
use Rattle.std.specs.Prelude.{◌≡◌, ℕ, ◌<◌, ◌-◌, suc, List, [], ◌++◌, map, length, replicate, Bool, true, false, Option, Some, None, slice_index_or}
use Rattle.std.specs.List.{list_any}
use Rattle.lgx_engine.specs.declared.place.Execution.{Execution}
use Rattle.lgx_cover.specs.declared.version.Version.{Version}
use Rattle.lgx_cover.specs.declared.row.Counts.{Counts}
use Rattle.lgx_cover.specs.declared.tables.Tables.{Tables}
use Rattle.lgx_cover.specs.TableView.{TableView, no_table}
use Rattle.lgx_cover.specs.Executions.{Occurrence, latest}
use Rattle.lgx_cover.specs.Counts.{is_version, once, in_version, in_routine, counts, routines_end, places_end}

-- a list that has a place i, with what stands for a missing element from its end on
abbrev pub grown : {A : Type 0} → List A → ℕ → A → List A
grown xs i none = xs ++ replicate (suc i - length xs) none

abbrev pub no_counts : Counts
no_counts = record { with_true = 0; with_false = 0 }

-- ---- a routine's row, by place

pub record IsRowOf (row : List Counts) (xs : List Execution) : Type 0 where
  pub end : length row ≡ places_end xs
  pub counted : (l : ℕ) → slice_index_or row l no_counts ≡ counts l xs

-- ---- a version's rows, by routine

pub record IsTableOf (rows : List (List Counts)) (xs : List Execution) : Type 0 where
  pub end : length rows ≡ routines_end xs
  pub rows_are : (r : ℕ) → IsRowOf (slice_index_or rows r []) (in_routine r xs)

-- ---- all tables

abbrev pub versions_of : List TableView → List Version
versions_of tables = map (λ t. t.version) tables

abbrev pub version_at : List TableView → ℕ → Version
version_at tables k = (slice_index_or tables k no_table).version

abbrev pub rows_at : List TableView → ℕ → List (List Counts)
rows_at tables k = (slice_index_or tables k no_table).rows

-- whether a version is among these
abbrev pub has : List Version → Version → Bool
has vs w = list_any (λ v. is_version v w) vs

-- the number of the table of this version of a program; none if it has begun with none
abbrev pub IsPlaceOf : List TableView → ℕ → Option ℕ → Option ℕ → Type 0
IsPlaceOf tables q None place = place ≡ None
IsPlaceOf tables q (Some n) place =
    (k : ℕ) × (place ≡ Some k) × (k < length tables) × (version_at tables k ≡ record { program = q; number = n })

-- There is one for each version that a program began with, in the order of first begins, and it has the counts of this version's
-- executions; nothing was executed in another version. For each program the one is known that it began with last.
pub record AreTablesOf (tables : List TableView) (current : List (Option ℕ)) (begun : List Version) (all : List Occurrence) : Type 0 where
  pub versions : versions_of tables ≡ once begun
  pub distinct : (i j : ℕ) → i < length tables → j < length tables → is_version (version_at tables i) (version_at tables j) ≡ true → i ≡ j
  pub known : (q : ℕ) → IsPlaceOf tables q (latest q begun) (slice_index_or current q None)
  pub counted : (k : ℕ) → k < length tables → IsTableOf (rows_at tables k) (in_version (version_at tables k) all)
  pub elsewhere : (v : Version) → has (versions_of tables) v ≡ false → in_version v all ≡ []

abbrev pub KeepCounts : Tables → List Version → List Occurrence → Type 0
KeepCounts t begun all = AreTablesOf t.tables.items t.current.items begun all
