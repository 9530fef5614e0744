-- The text of tables is that of what they count.
use Rattle.std.proofs.Common.{◌≡◌, ℕ, zero, suc, ◌+◌, ◌<◌, List, [], ◌∷◌, ◌++◌, length, flat_map, get_or, Option, refl, sym, ap, ap₂, ◌∙◌, append_assoc, append-nil, add-one, arith}
use Rattle.std.specs.List.{range_with_len}
use Rattle.std.proofs.lemmas.List.Folds.{flat_map-map}
use Rattle.lgx_engine.specs.declared.place.Execution.{Execution}
use Rattle.lgx_cover.specs.declared.version.Version.{Version}
use Rattle.lgx_cover.specs.declared.row.Counts.{Counts}
use Rattle.lgx_cover.specs.TableView.{TableView, no_table}
use Rattle.lgx_cover.specs.Executions.{Occurrence}
use Rattle.lgx_cover.specs.Counts.{once, in_version, in_routine, counts, routines_end, places_end, falling}
use Rattle.lgx_cover.specs.Tables.{no_counts, IsRowOf, IsTableOf, AreTablesOf}
use Rattle.lgx_cover.specs.Texts.{place_text, routine_text, version_text, end_text, counts_text}
use Rattle.lgx_cover.specs.RowTexts.{row_text, table_text, tables_text}

-- texts that are the same one by one
all_same : {A : Type 0} (f g : A → List ℕ) → ((x : A) → f x ≡ g x) → (xs : List A) → flat_map f xs ≡ flat_map g xs
all_same f g same [] = refl
all_same f g same (x ∷ xs) = ap₂ (λ (a b : List ℕ). a ++ b) (same x) (all_same f g same xs)

each_same : {A : Type 0} (f g : A → List ℕ) (xs : List A) (d : A) → ((i : ℕ) → i < length xs → f (get_or xs i d) ≡ g (get_or xs i d)) → flat_map f xs ≡ flat_map g xs
each_same f g [] d same = refl
each_same f g (x ∷ xs) d same =
    ap₂ (λ (a b : List ℕ). a ++ b) (same zero (omega arith)) (each_same f g xs d (λ i h. same (suc i) (omega arith)))

row_says : (v : Version) (r : ℕ) (row : List Counts) (xs : List Execution) → IsRowOf row xs → row_text v r row ≡ routine_text v r xs
row_says v r row xs is =
    ap (λ n. flat_map (λ l. place_text v r l (get_or row l no_counts)) (falling n)) is.end
    ∙ all_same (λ l. place_text v r l (get_or row l no_counts)) (λ l. place_text v r l (counts l xs)) (λ l. ap (place_text v r l) (is.counted l)) (falling (places_end xs))

table_says : (t : TableView) (xs : List Execution) → IsTableOf t.rows xs → table_text t ≡ version_text t.version xs
table_says t xs is =
    ap (λ n. flat_map (λ r. row_text t.version r (get_or t.rows r [])) (range_with_len 0 n)) is.end
    ∙ all_same (λ r. row_text t.version r (get_or t.rows r [])) (λ r. routine_text t.version r (in_routine r xs)) (λ r. row_says t.version r (get_or t.rows r []) (in_routine r xs) (is.rows_are r)) (range_with_len 0 (routines_end xs))

pub tables_say : (tables : List TableView) (current : List (Option ℕ)) (begun : List Version) (all : List Occurrence) → AreTablesOf tables current begun all → tables_text tables ≡ counts_text (once begun) all
tables_say tables current begun all is =
    ap (λ text. text ++ end_text)
    (each_same table_text (λ (t : TableView). version_text t.version (in_version t.version all)) tables no_table (λ k h. table_says (get_or tables k no_table) (in_version (get_or tables k no_table).version all) (is.counted k h))
    ∙ (sym (flat_map-map (λ (v : Version). version_text v (in_version v all)) (λ (t : TableView). t.version) tables)
    ∙ ap (λ vs. flat_map (λ (v : Version). version_text v (in_version v all)) vs) is.versions))

-- ---- texts that grow

-- one number more
from_more : (f : ℕ → List ℕ) (a n : ℕ) → flat_map f (range_with_len a (suc n)) ≡ flat_map f (range_with_len a n) ++ f (a + n)
from_more f a zero = append-nil (f a) ∙ ap f (let same : a ≡ a + 0 = omega arith in same)
from_more f a (suc n) =
    ap (λ t. f a ++ t) (from_more f (a + 1) n ∙ ap (λ k. flat_map f (range_with_len (a + 1) n) ++ f k) (let same : (a + 1) + n ≡ a + suc n = omega arith in same))
    ∙ sym (append_assoc (f a) (flat_map f (range_with_len (a + 1) n)) (f (a + suc n)))

pub rows_more : (f : ℕ → List ℕ) (n : ℕ) → flat_map f (range_with_len 0 n) ++ f n ≡ flat_map f (range_with_len 0 (n + 1))
rows_more f n =
    ap (λ k. flat_map f (range_with_len 0 n) ++ f k) (let same : n ≡ 0 + n = omega arith in same)
    ∙ (sym (from_more f 0 n) ∙ ap (λ k. flat_map f (range_with_len 0 k)) (sym (add-one n)))
